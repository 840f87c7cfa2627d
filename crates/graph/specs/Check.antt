-- Checks: tests in order, each with the number that it refuses by.
use Rattle.std.specs.Prelude.{ℕ, ◌%◌, ◌/◌, ◌*◌, ◌≤◌, ◌<◌, List, [], ◌∷◌, Bool, true, false, not, ◌&&◌, length, get_or, ltb, eqb, ◌≡◌}
use Rattle.std.proofs.Math.Option.{Option, none, some}
use Rattle.lists.specs.Search.{all_below}
use Rattle.graph.specs.Report.{Report, accepted, refused}
use Rattle.graph.specs.Edges.{edge_count}

-- A test that refuses by a number where it holds.
pub data Check : Type 0 where
  ◌gives◌ : Bool → ℕ → Check

infixl 20 ◌gives◌
-- "Checks run over the whole input, in the order given": the number of the first that refuses.
unfoldable pub first_refusal : List Check → Option ℕ
first_refusal [] = none
first_refusal ((b gives k) ∷ checks) = elim b [ true ↦ some k | false ↦ first_refusal checks ]

-- Refused by the first check that refuses, or else accepted with the values.
unfoldable pub answered : {A : Type 0} → List Check → A → Report A
answered checks values = elim (first_refusal checks) [ none ↦ accepted values | some k ↦ refused k ]

-- What a lent slice holds afterwards: as before where a check refuses.
unfoldable pub written : {A : Type 0} → List Check → A → A → A
written checks before after = elim (first_refusal checks) [ none ↦ after | some k ↦ before ]

-- "1, n above 512. 2, the end list has odd length. 3, it has more than 8,192 numbers. 4, an end is n or more."
unfoldable pub graph_checks : ℕ → List ℕ → List Check
graph_checks n ends =
    (ltb 512 n gives 1)
    ∷ (eqb (length ends % 2) 1 gives 2)
    ∷ (ltb 8192 (length ends) gives 3)
    ∷ (not (all_below n ends) gives 4)
    ∷ []

-- "5 unless" a slice has this length.
abbrev pub length_check : ℕ → ℕ → Check
length_check given wanted = not (eqb given wanted) gives 5

-- The graph checks report n and m.
unfoldable pub check_graph : ℕ → List ℕ → Report (ℕ × ℕ)
check_graph n ends = answered (graph_checks n ends) (n, length ends / 2)

-- ---- checks in a row

-- Every number by which a check of the list may refuse passes the test.
unfoldable pub numbers_pass : (ℕ → Bool) → List Check → Bool
numbers_pass test [] = true
numbers_pass test ((b gives k) ∷ checks) = test k && numbers_pass test checks

-- ---- a graph that passed

-- What the graph checks leave of n and the end list.
pub record Passed (n : ℕ) (ends : List ℕ) : Type 0 where
  pub nodes : n ≤ 512
  pub even : length ends ≡ 2 * edge_count ends
  pub edges : edge_count ends ≤ 4096
  pub inside : (i : ℕ) → i < length ends → get_or ends i 0 < n
