-- No more may be read than at the start.
use Rattle.std.proofs.Common.{◌≤◌}
use Rattle.replay_input.proofs.reader.Reader.read_list.Given as goal

abbrev pub invariant-loop-number : goal.invariant-loop-number
invariant-loop-number g l = l.self.left ≤ l.fn.self.left
