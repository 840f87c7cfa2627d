-- `copy_numbers` meets its contract.
use native.Mathlib.Omega.{arith}
use Rattle.file_layout.proofs.FieldLaws.{number_copied, numbers_end}
use Rattle.file_fields.proofs.numbers.copy_numbers.Goals as goal

pub loop-i-preserved : goal.loop-i-preserved
loop-i-preserved c = number_copied _ _ _ _ c.loop-i.invariant _ (omega arith) (omega arith) c.number_at.ensures.answer

pub returns : goal.returns
returns c = let l = c.loop-i in record { list = numbers_end _ _ _ l.i l.invariant (omega arith) }
