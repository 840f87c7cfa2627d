-- `put_off_presets` meets its contract. The invariant: the neighbours of the presets passed are put off.
use Rattle.std.proofs.Common.{◌≡◌}
use Rattle.greedy.specs.IndependentSet.{put_off_presets}
use Rattle.items.specs.Items.{neighbors_of}
use Rattle.independent_set.proofs.rounds.put_off_presets.Given as goal

abbrev pub invariant-loop-item : goal.invariant-loop-item
invariant-loop-item l = l.lists ≡ put_off_presets (neighbors_of l.items.kind l.items.table.nodes l.items.table.ends.now) l.presets l.color.0 l.item l.initial.lists
