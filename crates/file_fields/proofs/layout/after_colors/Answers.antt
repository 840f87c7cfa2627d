-- `after_colors` meets its contract: one law for each answer.
use native.Mathlib.Omega.{arith}
use Rattle.std.specs.Prelude.{Some}
use Rattle.file_fields.proofs.LayoutLaws.{colors_end, method_cut, method_tag, method_length, method_above, method_more, method_last, byte_named, unnamed_above}
use Rattle.file_fields.proofs.layout.after_colors.Goals as goal

pub returns-then-at-bytes : goal.returns-then-at-bytes
returns-then-at-bytes c = let s = c.args in record { answer = colors_end _ s.at s.nodes s.edges c.if-at-bytes.true (Some c.without_method.result) c.without_method.ensures.answer }

pub returns-in_err-field : goal.returns-in_err-field
returns-in_err-field c = let s = c.args in record { answer = rw c.from_residual.ensures (method_cut _ s.at s.nodes s.edges _ c.field_at.ensures.answer c.in_err-field.was (λ z. omega arith) c.requires) }

pub returns-then-field-ne4 : goal.returns-then-field-ne4
returns-then-field-ne4 c = let s = c.args in record { answer = method_tag _ s.at s.nodes s.edges _ c.field_at.ensures.answer _ c.in_ok-field.was (λ z. omega arith) }

pub returns-then-field-ne1 : goal.returns-then-field-ne1
returns-then-field-ne1 c = let s = c.args in record { answer = method_length _ s.at s.nodes s.edges _ c.field_at.ensures.answer _ c.in_ok-field.was c.field_at.ensures.inside (λ z. omega arith) }

pub returns-then-field-bytes : goal.returns-then-field-bytes
returns-then-field-bytes c = let s = c.args in record { answer = method_more _ s.at s.nodes s.edges _ c.field_at.ensures.answer _ c.in_ok-field.was c.field_at.ensures.inside (omega arith) (λ z. omega arith) }

pub returns-in_err-method : goal.returns-in_err-method
returns-in_err-method c = let s = c.args in
    let above = unnamed_above _ _ _ c.try_from.ensures c.ok.ensures.value c.in_err-method.was in
    record { answer = rw c.from_residual-in_err-method.ensures (method_above _ s.at s.nodes s.edges _ c.field_at.ensures.answer _ c.in_ok-field.was c.field_at.ensures.inside (omega arith) above) }

pub returns : goal.returns
returns c = let s = c.args in
    let named = byte_named _ _ _ c.try_from.ensures c.ok.ensures.value _ c.in_ok-method.was in
    record { answer = method_last _ s.at s.nodes s.edges _ c.field_at.ensures.answer _ c.in_ok-field.was c.field_at.ensures.inside _ (omega arith) (omega arith) named (omega arith) }
