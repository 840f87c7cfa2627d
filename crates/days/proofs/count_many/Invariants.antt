-- The numbers below `from` are counted. What is left to go over falls, since each window has a colour at least.
use Rattle.std.proofs.Common.{◌≤◌, ◌-◌, ◌≡◌}
use Rattle.lists.specs.Different.{different}
use Rattle.days.specs.Within.{within}
use Rattle.days.proofs.count_many.Given as goal

abbrev pub invariant-loop-start : goal.invariant-loop-start
invariant-loop-start l = (l.from ≤ l.most) × (l.days ≡ different (within 0 l.from l.colors))

abbrev pub decreases-loop-start : goal.decreases-loop-start
decreases-loop-start l = l.most - l.from
