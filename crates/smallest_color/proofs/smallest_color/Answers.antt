-- `smallest_color` meets its contract: by few marks or by all, the smallest colour that no neighbour has.
use Rattle.smallest_color.proofs.MarksLaws.{node_few}
use Rattle.smallest_color.proofs.smallest_color.Goals as goal

pub returns-then-edges_at-lt-FEW : goal.returns-then-edges_at-lt-FEW
returns-then-edges_at-lt-FEW c = record { answer = node_few _ _ _ _ _ _ c.edges_at.ensures.contents c.if-edges_at-lt-FEW.true c.first_free_of.ensures.answer }
