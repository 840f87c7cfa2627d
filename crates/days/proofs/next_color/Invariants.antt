-- No number passed that is not below `from` is below `next`.
use Rattle.std.proofs.Common.{ℕ, ◌<◌, ◌≤◌, get_or}
use Rattle.days.proofs.next_color.Given as goal

abbrev pub invariant-loop-color : goal.invariant-loop-color
invariant-loop-color l = (l.from ≤ l.next) × ((k : ℕ) → k < l.color-index → l.from ≤ get_or l.colors k 0 → l.next ≤ get_or l.colors k 0)
