-- Examples as rows of a list, held against the definitions by computation.
use Rattle.std.specs.Prelude.{ℕ, Bool, true, false, ◌&&◌, List, [], ◌∷◌, ◌++◌, ◌≡◌, eqb}
use Rattle.lists.specs.Equal.{equal}
use Rattle.lists.proofs.Tests.{and_true, true_and}
use Rattle.graph.specs.Report.{Report, accepted, refused}
use Rattle.graph.specs.Color.{Outcome}

-- A row: the outcome that a call's definition gives, and what is expected of its report and of the slice afterwards.
pub record Row : Type 0 where
  pub outcome : Outcome
  pub report : Report ℕ
  pub colors : List ℕ

-- Equal reports, as a test.
unfoldable pub same_report : Report ℕ → Report ℕ → Bool
same_report (accepted a) (accepted b) = eqb a b
same_report (accepted a) (refused b) = false
same_report (refused a) (accepted b) = false
same_report (refused a) (refused b) = eqb a b

unfoldable pub holds : Row → Bool
holds r = same_report r.outcome.report r.report && equal r.outcome.colors r.colors

unfoldable pub all_hold : List Row → Bool
all_hold [] = true
all_hold (r ∷ rs) = holds r && all_hold rs

-- Two lists of rows that hold are one that holds.
pub rows_append : (a b : List Row) → all_hold a ≡ true → all_hold b ≡ true → all_hold (a ++ b) ≡ true
unfolding all_hold
rows_append [] b p q = q
rows_append (r ∷ rs) b p q = let h = and_true (holds r) (all_hold rs) p in true_and (holds r) (all_hold (rs ++ b)) h.0 (rows_append rs b h.1 q)
