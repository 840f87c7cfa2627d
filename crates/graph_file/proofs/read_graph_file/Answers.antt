-- `read_graph_file` meets its contract: one law for each answer, every element being a byte.
use Rattle.std.proofs.lemmas.Result.{err_from_is_err_and}
use native.Mathlib.Omega.{arith}
use Rattle.graph_file.proofs.CallLaws.{answer_bad, answer_short_ends, answer_short_colors, answer_read, edges_most, ends_inside, colors_inside}
use Rattle.graph_file.proofs.read_graph_file.Goals as goal

-- The bytes have another layout: 10.
pub returns-in_err-file : goal.returns-in_err-file
returns-in_err-file c =
    let s = c.args in
    let p = err_from_is_err_and c.from_residual.result c.from_residual.ensures.1 in
    let all_parts = answer_bad _ s.ends.now s.colors.now c.type_inv.bytes _ c.layout_of.ensures.answer _ c.ok_or.ensures.value _ c.in_err-file.was in
    rw (p.1, p.2) (record { report = all_parts.0; ends = all_parts.1.0; colors = all_parts.1.1.0; layout = all_parts.1.1.1 })

pub overflow_mul-edges : goal.overflow_mul-edges
overflow_mul-edges c = let s = c.args in
    omega (arith, edges_most _ s.ends.now s.colors.now c.type_inv.bytes _ c.layout_of.ensures.answer _ c.ok_or.ensures.value _ c.in_ok-file.was)

pub returns-then-ends-edges : goal.returns-then-ends-edges
returns-then-ends-edges c = let s = c.args in let all_parts = answer_short_ends _ s.ends.now s.colors.now c.type_inv.bytes _ c.layout_of.ensures.answer _ c.ok_or.ensures.value _ c.in_ok-file.was (omega arith) in record { report = all_parts.0; ends = all_parts.1.0; colors = all_parts.1.1.0; layout = all_parts.1.1.1 }

pub colors_place-place-requires : goal.colors_place-place-requires
colors_place-place-requires c = let s = c.args in
    edges_most _ s.ends.now s.colors.now c.type_inv.bytes _ c.layout_of.ensures.answer _ c.ok_or.ensures.value _ c.in_ok-file.was

pub returns-then-colors-count : goal.returns-then-colors-count
returns-then-colors-count c = let s = c.args in let all_parts = answer_short_colors _ s.ends.now s.colors.now c.type_inv.bytes _ c.layout_of.ensures.answer _ c.ok_or.ensures.value _ c.in_ok-file.was _ _ c.colors_place-place.ensures.answer (omega arith) in record { report = all_parts.0; ends = all_parts.1.0; colors = all_parts.1.1.0; layout = all_parts.1.1.1 }

pub slice_bounds-copy_numbers-end : goal.slice_bounds-copy_numbers-end
slice_bounds-copy_numbers-end c = let s = c.args in
    omega (arith, ends_inside _ s.ends.now s.colors.now c.type_inv.bytes _ c.layout_of.ensures.answer _ c.ok_or.ensures.value _ c.in_ok-file.was)

pub slice_bounds-copy_numbers-end-2 : goal.slice_bounds-copy_numbers-end-2
slice_bounds-copy_numbers-end-2 c = let s = c.args in
    omega (arith, colors_inside _ s.ends.now s.colors.now c.type_inv.bytes _ c.layout_of.ensures.answer _ c.ok_or.ensures.value _ c.in_ok-file.was _ _ c.colors_place-place.ensures.answer)

pub returns : goal.returns
returns c = let s = c.args in let all_parts = answer_read _ s.ends.now s.colors.now c.type_inv.bytes _ c.layout_of.ensures.answer _ c.ok_or.ensures.value _ c.in_ok-file.was _ _ c.colors_place-place.ensures.answer
    (omega arith) (omega arith) _ _ c.copy_numbers.ensures.list c.copy_numbers-2.ensures.list in record { report = all_parts.0; ends = all_parts.1.0; colors = all_parts.1.1.0; layout = all_parts.1.1.1 }
