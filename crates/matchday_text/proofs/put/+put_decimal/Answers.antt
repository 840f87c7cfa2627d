-- `put_decimal` meets its contract: the digits of a tenth of the number, then its last digit. The measure is the number.
use native.Mathlib.Omega.{arith}
use Rattle.matchday_text.proofs.PutLaws.{room_tenth, room_last, put_last}
use Rattle.matchday_text.proofs.put.+put_decimal.Goals as goal

pub put_decimal-next-requires : goal.put_decimal-next-requires
put_decimal-next-requires t c = (omega arith, room_tenth _ _ (omega arith) c.requires)

pub put-requires-2 : goal.put-requires-2
put-requires-2 t c = room_last _ _ _ _ _ (omega arith) c.requires c.put_decimal-next.ensures.put

pub returns : goal.returns
returns t c = record { put = put_last _ _ _ _ _ _ _ (omega arith) c.put_decimal-next.ensures.put c.put-2.ensures.put }
