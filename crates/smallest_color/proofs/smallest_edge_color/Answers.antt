-- `smallest_edge_color` meets its contract: the smallest colour that none of the edges in both ends' stretches has.
use Rattle.smallest_color.proofs.MarksLaws.{smallest_at_ends}
use Rattle.smallest_color.proofs.smallest_edge_color.Goals as goal

pub returns : goal.returns
returns c = record { answer = smallest_at_ends _ _ _ _ _ _ _ _ _ _ c.end_at.ensures.answer c.end_at-2.ensures.answer c.edges_at-first.ensures.contents c.edges_at-second.ensures.contents c.smallest_unused.ensures.answer }
