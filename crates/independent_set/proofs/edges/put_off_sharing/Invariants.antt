-- `put_off_sharing` meets its contract. The invariant: the parts of the turns passed are put off.
use Rattle.std.proofs.Common.{◌≡◌}
use Rattle.graph.specs.Stretch.{stretch}
use Rattle.greedy.specs.IndependentSet.{put_off_all}
use Rattle.independent_set.proofs.NeighborsLaws.{parts_to}
use Rattle.independent_set.proofs.edges.put_off_sharing.Given as goal

abbrev pub invariant-loop-turn : goal.invariant-loop-turn
invariant-loop-turn l = l.lists ≡ put_off_all l.initial.lists (parts_to (stretch l.table.starts.now l.table.entries.now) l.table.ends.now l.edge.0 l.turn)
