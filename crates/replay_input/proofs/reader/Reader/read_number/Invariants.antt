-- No more may be read than at the start. The measure is how much may still be read.
use Rattle.std.proofs.Common.{◌≤◌}
use Rattle.replay_input.proofs.reader.Reader.read_number.Given as goal

abbrev pub invariant-loop-self : goal.invariant-loop-self
invariant-loop-self g l = l.self.left ≤ l.initial.self.left

abbrev pub decreases-loop-self : goal.decreases-loop-self
decreases-loop-self g l = l.self.left
