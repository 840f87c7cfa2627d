-- `put_edge` meets its contract: the numbers are those of the edge.
use Rattle.matchday_text.proofs.PutLaws.{edge_room, edge_put}
use Rattle.matchday_text.proofs.lines.put_edge.Goals as goal

pub put_line-requires : goal.put_line-requires
put_line-requires c = edge_room _ _ _ _ _ _ _ c.end_at-first.ensures.answer c.end_at-second.ensures.answer c.color_at-color.ensures.answer c.requires

pub returns : goal.returns
returns c = record { put = edge_put _ _ _ _ _ _ _ _ _ _ c.end_at-first.ensures.answer c.end_at-second.ensures.answer c.color_at-color.ensures.answer c.put_line.ensures.put }
