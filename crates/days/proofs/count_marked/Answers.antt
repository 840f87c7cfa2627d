use Rattle.std.proofs.Common.{arith, sym}
use Rattle.days.proofs.CountLaws.{left_all, left_some, rest_length, rest_front, next_last, counted_start, counted_bound, counted_full, counted_low, counted_high, counted_again, counted_new}
use Rattle.days.proofs.count_marked.Goals as goal
use Rattle.days.proofs.count_marked.Goals.{else-place-marks-via-then-place-marks+else-not-marks-place, else-place-marks-via-else-place-marks}

pub loop-color-init : goal.loop-color-init
loop-color-init c = rw (c.into_iter-color-iterator.ensures.into_iter_gives, c.rev-color-items.ensures.source, c.iter.ensures.rest) (left_all c.args.colors.now, counted_start _ _ _ c.requires)

pub returns-then-days-marks : goal.returns-then-days-marks
returns-then-days-marks c = record { answer = counted_full c.loop-color.invariant.1 c.if-days-marks.true }

-- There are no more days than marks, and not all are set.
pub overflow_add-days : goal.overflow_add-days
overflow_add-days c = omega (arith, counted_bound c.loop-color.invariant.1, c.loop-color.invariant.1.sized)

pub loop-color-preserved-then-not-marks-place : goal.loop-color-preserved-then-not-marks-place
loop-color-preserved-then-not-marks-place c =
    let (front, i) = c.loop-color.invariant in
    let some = left_some _ _ _ _ front c.in-Some.ensures.steps in
    let last = next_last _ _ _ _ front c.in-Some.ensures.steps in
    (rest_front _ _ _ _ front c.in-Some.ensures.steps, rw (rest_length _ _ _ _ front c.in-Some.ensures.steps, sym last) (counted_new i some (rw last c.if-from-color.true) (rw last c.if-place-marks.true) (rw last c.if-not-marks-place.true)))

pub loop-color-preserved-else-place-marks : goal.loop-color-preserved-else-place-marks
loop-color-preserved-else-place-marks c =
    let (front, i) = c.loop-color.invariant in
    let some = left_some _ _ _ _ front c.in-Some.ensures.steps in
    let last = next_last _ _ _ _ front c.in-Some.ensures.steps in (
      rest_front _ _ _ _ front c.in-Some.ensures.steps,
      rw (rest_length _ _ _ _ front c.in-Some.ensures.steps) (elim c.else-place-marks.branch [
        | else-place-marks-via-then-place-marks+else-not-marks-place w ↦ counted_again i some (rw last c.if-from-color.true) (rw last w.if-place-marks.true) (rw last w.if-not-marks-place.false)
        | else-place-marks-via-else-place-marks w ↦ counted_high i some (rw last c.if-from-color.true) (rw last w.if-place-marks.false)
      ]),
    )

pub loop-color-preserved : goal.loop-color-preserved
loop-color-preserved c =
    let (front, i) = c.loop-color.invariant in
    let some = left_some _ _ _ _ front c.in-Some.ensures.steps in
    let last = next_last _ _ _ _ front c.in-Some.ensures.steps in
    (rest_front _ _ _ _ front c.in-Some.ensures.steps, rw (rest_length _ _ _ _ front c.in-Some.ensures.steps) (counted_low i some (rw last c.if-from-color.false)))
