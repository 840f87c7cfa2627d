use Rattle.std.proofs.Common.{arith, inl, inr, sym}
use Rattle.std.proofs.lemmas.Grind.{common_steps}
use Rattle.days.proofs.CountLaws.{left_all, left_some, rest_length, rest_front, next_last, copied_start, copied_in, copied_out}
use Rattle.days.proofs.copy_large.Goals as goal

pub loop-color-init : goal.loop-color-init
loop-color-init c = rw (c.into_iter-color-iterator.ensures.into_iter_gives, c.rev-color-items.ensures.source, c.iter.ensures.rest) (left_all c.args.colors.now, copied_start _ _ _ _)

pub loop-color-preserved-then-contains : goal.loop-color-preserved-then-contains
loop-color-preserved-then-contains c =
    let (front, i) = c.loop-color.invariant in
    let some = left_some _ _ _ _ front c.in-Some.ensures.steps in
    let last = next_last _ _ _ _ front c.in-Some.ensures.steps in
    (rest_front _ _ _ _ front c.in-Some.ensures.steps, rw (rest_length _ _ _ _ front c.in-Some.ensures.steps, sym last) (copied_in i some (rw last (grind (arith, common_steps))) (rw last (grind (arith, common_steps))) (omega arith)))

pub loop-color-preserved : goal.loop-color-preserved
loop-color-preserved c =
    let (front, i) = c.loop-color.invariant in
    let some = left_some _ _ _ _ front c.in-Some.ensures.steps in
    let last = next_last _ _ _ _ front c.in-Some.ensures.steps in
    (rest_front _ _ _ _ front c.in-Some.ensures.steps, rw (rest_length _ _ _ _ front c.in-Some.ensures.steps) (copied_out i some (rw last (elim c.if-contains.ensures.cases [ inl p ↦ inl (grind (arith, common_steps)) | inr p ↦ inr (grind (arith, common_steps)) ]))))
