use Rattle.std.proofs.Common.{◌+◌, arith}
use Rattle.days.proofs.CountLaws.{window_none, window_more, window_last, within_bound}
use Rattle.days.proofs.count_many.Goals as goal

pub loop-start-init : goal.loop-start-init
loop-start-init c = (omega arith, window_none _)

pub overflow_add-days : goal.overflow_add-days
overflow_add-days c =
    omega (arith, window_more _ _ _ c.loop-start.invariant.1 _ _ _ c.in-Some.ensures.next.0 c.in-Some.ensures.next.2 c.count_window-days.ensures.answer, within_bound 0 (c.in-Some.start + c.min-length.result) c.args.colors.now, c.min-length.ensures)

pub loop-start-preserved : goal.loop-start-preserved
loop-start-preserved c = (omega (arith, c.in-Some.ensures.next), window_more _ _ _ c.loop-start.invariant.1 _ _ _ c.in-Some.ensures.next.0 c.in-Some.ensures.next.2 c.count_window-days.ensures.answer)

pub returns : goal.returns
returns c = record { answer = window_last _ _ _ c.loop-start.invariant.1 _ c.loop-start.invariant.0 c.in_default.ensures.next }
