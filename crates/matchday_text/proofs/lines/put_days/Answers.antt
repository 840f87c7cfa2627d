-- `put_days` meets its contract: the word, the days, then the lines.
use Rattle.matchday_text.proofs.PutLaws.{days_number, days_lines, days_put}
use Rattle.matchday_text.proofs.lines.put_days.Goals as goal

pub put_number-b-requires : goal.put_number-b-requires
put_number-b-requires c = days_number _ _ _ _ c.requires.room _ _ c.put_bytes-a.ensures.put

pub put_edges-requires : goal.put_edges-requires
put_edges-requires c = record { ends_bound = c.requires.ends_bound; room = days_lines _ _ _ _ c.requires.room _ _ c.put_bytes-a.ensures.put _ _ c.put_number-b.ensures.put }

pub returns : goal.returns
returns c = record { put = days_put _ _ _ _ c.requires.room _ _ c.put_bytes-a.ensures.put _ _ c.put_number-b.ensures.put _ _ c.put_edges.ensures.put }
