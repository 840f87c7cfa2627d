-- `node_has_double` meets its contract. The invariant: the far ends of the edges passed differ, and just these have the node's stamp.
use Rattle.graph.specs.Stretch.{stretch}
use Rattle.simple_graph.proofs.DoubleEdgesLaws.{Seen}
use Rattle.simple_graph.proofs.node_has_double.Given as goal

abbrev pub invariant-loop-edge : goal.invariant-loop-edge
invariant-loop-edge l = Seen l.ends (stretch l.starts l.entries l.fn.node.0) l.fn.node.0 l.edge-index l.seen
