-- `step_at` meets its contract: its one test is the test of `step_at`.
use borrow.Author.Tests.{lt-ltb, le-ltb}
use Rattle.edge_walk.specs.Walk.{step_at}
use Rattle.edge_walk.proofs.walk.step_at.Goals as goal

pub returns-then-at-entries : goal.returns-then-at-entries
unfolding step_at
returns-then-at-entries c = record { answer = simp (lt-ltb _ _ c.if-at-entries.true) }

pub returns-else-at-entries : goal.returns-else-at-entries
unfolding step_at
returns-else-at-entries c = record { answer = simp (le-ltb _ _ c.if-at-entries.false) }
