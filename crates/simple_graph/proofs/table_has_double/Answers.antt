use borrow.Author.Rules.{rules}
use Rattle.simple_graph.proofs.DoubleEdgesLaws.{no_node, node_ready, double_found, no_double}
use Rattle.simple_graph.proofs.table_has_double.Goals as goal

pub loop-v-init : goal.loop-v-init
loop-v-init c = search (rules, no_node)

pub node_has_double-requires-clause-seen_ready : goal.node_has_double-requires-clause-seen_ready
node_has_double-requires-clause-seen_ready c = search (rules, node_ready)

pub returns-then-node_has_double : goal.returns-then-node_has_double
returns-then-node_has_double c = search (rules, double_found)

pub returns : goal.returns
returns c = search (rules, no_double)
