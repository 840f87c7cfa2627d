-- `number_at` meets its contract: two bytes make a number below 65,536.
use native.Mathlib.Omega.{arith}
use Rattle.file_layout.specs.Fields.{number16}
use Rattle.file_fields.proofs.numbers.number_at.Goals as goal

pub returns : goal.returns
unfolding number16
returns c = record { answer = omega (arith, c.from_le_bytes.ensures) }
