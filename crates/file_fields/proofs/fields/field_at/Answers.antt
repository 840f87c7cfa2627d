-- `field_at` meets its contract: one law for each answer.
use native.Mathlib.Omega.{arith}
use Rattle.file_fields.proofs.LayoutLaws.{field_found}
use Rattle.file_fields.proofs.fields.field_at.Goals as goal

pub returns : goal.returns
returns c = let all_parts = field_found _ c.args.at _ (omega arith) c.number_at-length.ensures.answer (omega arith) in record { answer = all_parts.0; inside = all_parts.1 }
