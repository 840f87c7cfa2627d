-- `put_number` meets its contract: the digits, then the byte.
use Rattle.matchday_text.proofs.PutLaws.{number_room, number_last, number_put}
use Rattle.matchday_text.proofs.put.put_number.Goals as goal

pub put_decimal-next-requires : goal.put_decimal-next-requires
put_decimal-next-requires c = number_room _ _ _ c.requires

pub put-requires : goal.put-requires
put-requires c = number_last _ _ _ _ _ _ c.requires c.put_decimal-next.ensures.put

pub returns : goal.returns
returns c = record { put = number_put _ _ _ _ _ _ _ _ c.put_decimal-next.ensures.put c.put.ensures.put }
