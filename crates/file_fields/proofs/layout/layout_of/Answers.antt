-- `layout_of` meets its contract: one law for each answer.
use native.Mathlib.Omega.{arith}
use Rattle.file_fields.proofs.LayoutLaws.{file_cut, nodes_read}
use Rattle.file_fields.proofs.layout.layout_of.Goals as goal

pub returns-in_err-field : goal.returns-in_err-field
returns-in_err-field c = record { answer = rw c.from_residual.ensures (file_cut _ _ c.field_at.ensures.answer c.in_err-field.was) }

pub returns : goal.returns
returns c = record { answer = nodes_read _ _ c.field_at.ensures.answer _ c.in_ok-field.was c.field_at.ensures.inside (omega arith) (omega arith) _ c.number_at-nodes.ensures.answer c.after_nodes.result c.after_nodes.ensures.answer }
