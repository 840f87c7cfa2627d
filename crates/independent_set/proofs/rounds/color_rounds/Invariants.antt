-- `color_rounds` meets its contract. The invariant: the rounds that are left lead to the answer.
use Rattle.greedy.specs.IndependentSet.{rounds}
use Rattle.items.specs.Items.{neighbors_of}
use Rattle.independent_set.proofs.RoundsLaws.{Rounding}
use Rattle.independent_set.proofs.rounds.color_rounds.Given as goal

abbrev pub invariant-loop-r : goal.invariant-loop-r
invariant-loop-r l = Rounding l.items.count (neighbors_of l.items.kind l.items.table.nodes l.items.table.ends.now) l.presets l.lists l.r l.colors (rounds (neighbors_of l.items.kind l.items.table.nodes l.items.table.ends.now) l.items.count l.presets l.items.count 0 l.initial.lists.listed l.initial.colors)
