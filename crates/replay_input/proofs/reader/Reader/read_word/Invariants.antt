-- No more may be read than at the start.
use Rattle.std.proofs.Common.{◌≤◌}
use Rattle.replay_input.proofs.reader.Reader.read_word.Given as goal

abbrev pub invariant-loop-count : goal.invariant-loop-count
invariant-loop-count g l = l.self.left ≤ l.fn.self.left
