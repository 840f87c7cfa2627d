-- `color_listed` meets its contract. The invariant: the turns that are left lead to what the round leaves.
-- The measure: the items listed; each turn takes at least one out.
use Rattle.std.proofs.Common.{length}
use Rattle.greedy.specs.IndependentSet.{color_listed}
use Rattle.items.specs.Items.{neighbors_of}
use Rattle.independent_set.proofs.RoundsLaws.{Turning}
use Rattle.independent_set.proofs.rounds.color_listed.Given as goal

abbrev pub invariant-loop-front : goal.invariant-loop-front
invariant-loop-front l = Turning l.items.count (neighbors_of l.items.kind l.items.table.nodes l.items.table.ends.now) l.color.0 l.lists l.colors (color_listed (neighbors_of l.items.kind l.items.table.nodes l.items.table.ends.now) l.color.0 (length l.initial.lists.listed) l.initial.lists l.initial.colors)

abbrev pub decreases-loop-front : goal.decreases-loop-front
decreases-loop-front l = length l.lists.listed
