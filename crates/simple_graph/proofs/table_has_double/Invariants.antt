-- `table_has_double` meets its contract. The invariant: no node passed has two edges with the same far end, and no stamp is above the next node.
use Rattle.simple_graph.proofs.DoubleEdgesLaws.{Before}
use Rattle.simple_graph.proofs.table_has_double.Given as goal

abbrev pub invariant-loop-v : goal.invariant-loop-v
invariant-loop-v l = Before l.ends l.v l.seen
