-- The different numbers from i on are counted.
use Rattle.std.proofs.Common.{◌≡◌, drop}
use Rattle.lists.specs.Different.{different}
use Rattle.days.proofs.count_searched.Given as goal

abbrev pub invariant-loop-i : goal.invariant-loop-i
invariant-loop-i l = l.count ≡ different (drop l.i l.numbers)
