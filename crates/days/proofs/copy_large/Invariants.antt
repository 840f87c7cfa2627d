-- The colours left are the first of the list; the large ones behind them stand in the list from `place` on.
use Rattle.std.proofs.Common.{◌≡◌, length, take}
use Rattle.days.proofs.CountLaws.{Copied}
use Rattle.days.proofs.copy_large.Given as goal

abbrev pub invariant-loop-color : goal.invariant-loop-color
invariant-loop-color l = let left = l.color-iterator.iter.rest.now in
    (left ≡ take (length left) l.colors) × Copied 4096 65535 l.colors (length l.initial.large) (length left) l.place l.large
