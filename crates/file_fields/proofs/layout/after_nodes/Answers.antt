-- `after_nodes` meets its contract: one law for each answer.
use native.Mathlib.Omega.{arith}
use Rattle.file_fields.proofs.LayoutLaws.{ends_cut, ends_read}
use Rattle.file_fields.proofs.layout.after_nodes.Goals as goal

pub returns-in_err-field : goal.returns-in_err-field
returns-in_err-field c = let s = c.args in record { answer = rw c.from_residual.ensures (ends_cut _ s.at s.nodes _ c.field_at.ensures.answer c.in_err-field.was) }

pub returns : goal.returns
returns c = let s = c.args in record { answer = ends_read _ s.at s.nodes _ c.field_at.ensures.answer _ c.in_ok-field.was c.field_at.ensures.inside (omega arith) (omega arith) (omega arith) c.after_ends.result c.after_ends.ensures.answer }
