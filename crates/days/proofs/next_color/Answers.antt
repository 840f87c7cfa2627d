use Rattle.std.proofs.Common.{ℕ, ◌≤◌, arith}
use Rattle.days.proofs.CountLaws.{each_member}
use Rattle.days.proofs.next_color.Goals as goal

pub returns-then-next-most : goal.returns-then-next-most
returns-then-next-most c =
    record { next = (c.loop-color.invariant.0, c.if-next-most.true, each_member (λ (k : ℕ). c.args.from ≤ k → c.loop-color.next ≤ k) c.args.colors.now (λ i h. c.loop-color.invariant.1 i (omega arith))) }

pub returns-else-next-most : goal.returns-else-next-most
returns-else-next-most c =
    record { next = each_member (λ (k : ℕ). c.args.from ≤ k → c.args.most ≤ k) c.args.colors.now (λ i h b. omega (arith, c.loop-color.invariant.1 i (omega arith) b)) }
