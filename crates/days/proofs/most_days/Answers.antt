use Rattle.std.proofs.Common.{ℕ, ◌<◌, ◌≢◌, arith}
use Rattle.days.proofs.CountLaws.{each_member}
use Rattle.days.proofs.most_days.Goals as goal

pub returns : goal.returns
returns c = record { most = each_member (λ (k : ℕ). k ≢ 65535 → k < c.loop-color.days) c.args.colors.now (λ i h. c.loop-color.invariant i (omega arith)) }
