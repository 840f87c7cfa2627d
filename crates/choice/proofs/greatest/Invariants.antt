-- `greatest` meets its contract. The invariant: the best so far is the greatest of the counts passed.
use Prim.Native.Nat.{ℕ}
use mathlib.Core.Path.{◌≡◌}
use lib.ListN.{get_or}
use Rattle.choice.specs.Choice.{greatest_below}
use Rattle.choice.proofs.greatest.Given as goal

abbrev pub invariant-loop-count : goal.invariant-loop-count
invariant-loop-count l = l.best ≡ greatest_below (λ (v : ℕ). get_or l.counts v 0) l.count-index
