-- The outcome of two_color, and what it says: a bipartition, or that there is none.
use Rattle.std.specs.Prelude.{ℕ, ◌≤◌, ◌<◌, ◌≡◌, ◌⊎◌, ◌≢◌, List, [], ◌∷◌, ◌++◌, cond, length, get_or, ltb}
use Rattle.graph.specs.Report.{Report, accepted, refused, Accepted}
use Rattle.graph.specs.Check.{Check, ◌gives◌, graph_checks, length_check, Passed}
use Rattle.graph.specs.Edges.{edge_count, first_end, second_end}
use Rattle.graph.specs.Color.{Outcome, colored}
use Rattle.two_color.specs.Walk.{Walk, OddClosedWalk}
use Rattle.two_color.specs.Sides.{odd_cycle, sides}

-- "graph checks, then 5 unless the colour slice (bytes) has length n"
unfoldable pub input_checks : ℕ → List ℕ → List ℕ → List Check
input_checks n ends colors = graph_checks n ends ++ length_check (length colors) n ∷ []

-- "then 8, an odd closed walk exists"
unfoldable pub two_color : ℕ → List ℕ → List ℕ → Outcome
two_color n ends colors =
    let m = edge_count ends in
    colored (input_checks n ends colors ++ (odd_cycle ends m gives 8) ∷ []) colors (sides ends m n)

-- A bipartition, or that there is none: "It succeeds unless a closed walk of odd length exists".
pub record Bipartition (n : ℕ) (ends lent : List ℕ) (report : Report ℕ) (colors : List ℕ) : Type 0 where
  -- 8 is said only where the other checks pass and an odd closed walk exists,
  pub no : report ≡ refused 8 → Passed n ends × (length lent ≡ n) × OddClosedWalk ends (edge_count ends)
  -- and wherever they do;
  pub cannot : Passed n ends → length lent ≡ n → OddClosedWalk ends (edge_count ends) → report ≡ refused 8
  -- all else that passes them is accepted.
  pub answers : Passed n ends → length lent ≡ n → (report ≡ refused 8) ⊎ Accepted report
  -- Where the call accepts, every colour is 0 or 1, the ends of every edge have different ones,
  pub two : (days : ℕ) → report ≡ accepted days → (v : ℕ) → v < n → get_or colors v 0 ≤ 1
  pub differ : (days : ℕ) → report ≡ accepted days → (k : ℕ) → k < edge_count ends → get_or colors (first_end ends k) 0 ≢ get_or colors (second_end ends k) 0
  -- and the lowest node of each component, from which no walk leads to a lower one, has 1.
  pub lowest : (days : ℕ) → report ≡ accepted days → (v : ℕ) → v < n → ((u l : ℕ) → Walk ends (edge_count ends) v u l → v ≤ u) → get_or colors v 0 ≡ 1

-- The days of n nodes and m edges where no odd closed walk exists. Proved as `sides_days`.
unfoldable pub side_days : ℕ → ℕ → ℕ
side_days n m = cond (ltb 0 m) 2 (cond (ltb 0 n) 1 0)

-- The outcome where the other checks pass.
unfoldable pub sides_outcome : ℕ → List ℕ → List ℕ → Outcome
sides_outcome n ends colors = colored ((odd_cycle ends (edge_count ends) gives 8) ∷ []) colors (sides ends (edge_count ends) n)

-- Two outcomes of one input that meet the clause say yes or no alike, and have the same colours: so how `sides` joins components need not be believed. Proved as `one_bipartition`.
abbrev pub OneBipartition : Type 0
OneBipartition =
    (n : ℕ) (ends lent : List ℕ) (report report' : Report ℕ) (colors colors' : List ℕ) → Passed n ends → length lent ≡ n → Bipartition n ends lent report colors → Bipartition n ends lent report' colors'
    → ((report ≡ refused 8) × (report' ≡ refused 8)) ⊎ (Accepted report × Accepted report' × ((v : ℕ) → v < n → get_or colors v 0 ≡ get_or colors' v 0))
