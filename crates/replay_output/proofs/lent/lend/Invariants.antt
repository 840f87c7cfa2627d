-- The invariant: the places passed are as lent.
use Rattle.replay_output.specs.Lent.{LentTo}
use Rattle.replay_output.proofs.lent.lend.Given as goal

abbrev pub invariant-loop-place : goal.invariant-loop-place
invariant-loop-place g l = LentTo g.T.Number.standing_at l.place l.list
