use Rattle.std.proofs.Common.{◌≡◌, ◌-◌, ◌+◌, arith}
use Rattle.days.proofs.CountLaws.{searched_start, searched_bound, searched_again, searched_new}
use Rattle.days.proofs.count_searched.Goals as goal

pub loop-i-init : goal.loop-i-init
loop-i-init c = searched_start c.args.numbers.now

pub overflow_add-count : goal.overflow_add-count
overflow_add-count c = omega (arith, searched_bound c.args.numbers.now c.loop-i.i c.loop-i.count c.loop-i.invariant)

pub loop-i-preserved-then-not-contains : goal.loop-i-preserved-then-not-contains
loop-i-preserved-then-not-contains c =
    let here : c.loop-i.i - 1 + 1 ≡ c.loop-i.i = omega arith in
    searched_new c.args.numbers.now c.loop-i.i _ c.loop-i.invariant (omega arith) (omega arith) _ (rw here at c.contains.ensures.answer) c.if-not-contains.true

pub loop-i-preserved : goal.loop-i-preserved
loop-i-preserved c =
    let here : c.loop-i.i - 1 + 1 ≡ c.loop-i.i = omega arith in
    searched_again c.args.numbers.now c.loop-i.i _ c.loop-i.invariant (omega arith) (omega arith) _ (rw here at c.contains.ensures.answer) c.if-not-contains.false
