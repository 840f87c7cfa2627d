-- `far_end` meets its contract: the first end is the node, or it is not.
use Rattle.graph.proofs.EdgeLaws.{far_read_second, far_read_first}
use Rattle.edge_walk.proofs.far_end.Goals as goal

pub returns-then-first-node : goal.returns-then-first-node
returns-then-first-node c = record { answer = far_read_second _ _ _ _ _ c.end_at-first.ensures.answer c.if-first-node.true c.end_at.ensures.answer }

pub returns-else-first-node : goal.returns-else-first-node
returns-else-first-node c = record { answer = far_read_first _ _ _ _ c.end_at-first.ensures.answer c.if-first-node.false }
