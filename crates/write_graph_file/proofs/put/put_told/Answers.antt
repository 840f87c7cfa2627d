-- `put_told` meets its contract: neither field, the colours, or both.
use native.Mathlib.Omega.{arith}
use Rattle.write_graph_file.proofs.PutLaws.{told_none, colors_room, colors_most, told_colors, method_room, told_all}
use Rattle.write_graph_file.proofs.put.put_told.Goals as goal

pub returns-then-not-has_colors : goal.returns-then-not-has_colors
returns-then-not-has_colors c = record { output = told_none _ _ _ _ _ _ c.has_colors.ensures.answer c.if-not-has_colors.true c.requires.0 }

pub put_field-requires : goal.put_field-requires
put_field-requires c = let s = c.args in (
  colors_room s.output.now _ s.colors.now _ s.method _ c.has_colors.ensures.answer c.if-not-has_colors.false c.requires.2,
  colors_most s.output.now s.at s.colors.now _ s.method _ c.has_colors.ensures.answer c.if-not-has_colors.false c.requires.1,
)

pub returns-then-not-has_method : goal.returns-then-not-has_method
returns-then-not-has_method c = record { output = told_colors _ _ _ _ _ _ c.has_colors.ensures.answer c.if-not-has_colors.false _ c.has_method.ensures.answer c.if-not-has_method.true _ c.put_field.ensures.output }

pub put_method-requires : goal.put_method-requires
put_method-requires c = let s = c.args in
    omega (arith, c.put_field.auto.output, method_room s.output.now _ s.colors.now _ s.method _ c.has_colors.ensures.answer c.if-not-has_colors.false _ c.has_method.ensures.answer c.if-not-has_method.false c.requires.2)

pub returns : goal.returns
returns c = record { output = told_all _ _ _ _ _ _ c.has_colors.ensures.answer c.if-not-has_colors.false _ c.has_method.ensures.answer c.if-not-has_method.false _ _ c.put_field.ensures.output c.put_method.ensures.output }
