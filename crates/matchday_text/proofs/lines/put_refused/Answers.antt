-- `put_refused` meets its contract: the word, then the number.
use Rattle.matchday_text.proofs.PutLaws.{refused_number, refused_put}
use Rattle.matchday_text.proofs.lines.put_refused.Goals as goal

pub put_number-requires : goal.put_number-requires
put_number-requires c = refused_number _ _ c.requires _ _ c.put_bytes-a.ensures.put

pub returns : goal.returns
returns c = record { put = refused_put _ _ c.requires _ _ c.put_bytes-a.ensures.put _ _ c.put_number.ensures.put }
