-- `after_ends` meets its contract: one law for each answer.
use native.Mathlib.Omega.{arith}
use Rattle.std.specs.Prelude.{Some}
use Rattle.file_fields.proofs.LayoutLaws.{ends_end, colors_cut, colors_length, colors_read}
use Rattle.file_fields.proofs.layout.after_ends.Goals as goal

pub returns-then-at-bytes : goal.returns-then-at-bytes
returns-then-at-bytes c = let s = c.args in record { answer = ends_end _ s.at s.nodes s.edges c.if-at-bytes.true (Some c.without_method.result) c.without_method.ensures.answer }

pub returns-in_err-field : goal.returns-in_err-field
returns-in_err-field c = let s = c.args in record { answer = rw c.from_residual.ensures (colors_cut _ s.at s.nodes s.edges _ c.field_at.ensures.answer c.in_err-field.was (λ z. omega arith) c.requires.0) }

pub returns-then-field-edges : goal.returns-then-field-edges
returns-then-field-edges c = let s = c.args in record { answer = colors_length _ s.at s.nodes s.edges _ c.field_at.ensures.answer _ c.in_ok-field.was c.field_at.ensures.inside (λ z. omega arith) }

pub returns : goal.returns
returns c = let s = c.args in record { answer = colors_read _ s.at s.nodes s.edges _ c.field_at.ensures.answer _ c.in_ok-field.was c.field_at.ensures.inside (omega arith) (omega arith) c.after_colors.result c.after_colors.ensures.answer }
