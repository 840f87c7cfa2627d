-- The numbers left are the first of the list; those behind them are counted, and the marks say which they are.
use Rattle.std.proofs.Common.{◌≡◌, length, take}
use Rattle.days.proofs.CountLaws.{Counted}
use Rattle.days.proofs.count_marked.Given as goal

abbrev pub invariant-loop-color : goal.invariant-loop-color
invariant-loop-color l = let left = l.color-iterator.iter.rest.now in
    (left ≡ take (length left) l.colors) × Counted l.colors l.from (length l.initial.marks) (length left) l.days l.marks
