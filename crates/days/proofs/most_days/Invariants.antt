-- Every colour passed is below `days`.
use Rattle.std.proofs.Common.{ℕ, ◌<◌, ◌≢◌, get_or}
use Rattle.days.proofs.most_days.Given as goal

abbrev pub invariant-loop-color : goal.invariant-loop-color
invariant-loop-color l = (k : ℕ) → k < l.color-index → get_or l.colors k 0 ≢ 65535 → get_or l.colors k 0 < l.days
