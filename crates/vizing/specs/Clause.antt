-- Demand 3 of one call, said of its own report and slice: a clause of the call's contract.
use Rattle.std.specs.Prelude.{ℕ, ◌*◌, ◌≤◌, ◌<◌, ◌≡◌, List, length, get_or, take}
use Rattle.graph.specs.Report.{Report, accepted, Accepted}
use Rattle.graph.specs.Edges.{edge_count}
use Rattle.graph.specs.Color.{no_color}
use Rattle.vizing.specs.MisraGries.{held, misra_gries}
use Rattle.vizing.specs.Demand3.{Admitted, Accurate, Call, Demand3}

-- The colours of a call whose edges are the first k of the list `whole`.
pub record FirstEdgesOf (n : ℕ) (whole : List ℕ) (k : ℕ) (colors : List ℕ) : Type 0 where
  -- "its answer equals, place by place, places 0 to k - 1 of what the whole run holds after its kth edge"
  pub same : colors ≡ take k (held n whole k)
  -- "places from k on then still hold 65,535": those beyond the call's slice
  pub later : (j : ℕ) → length colors ≤ j → j < 4096 → get_or (held n whole k) j 0 ≡ no_color

-- Demand 3, of the report and the colours of a call on an admitted list with a place for each edge.
pub record Demand3Of (n : ℕ) (ends : List ℕ) (report : Report ℕ) (colors : List ℕ) : Type 0 where
  -- "refuses none"
  pub accepts : Accepted report
  pub accurate : Accurate n ends colors
  -- Whatever admitted list these ends are the first k edges of, the colours are what its run holds after its kth edge.
  pub first : (whole : List ℕ) (k : ℕ) → Admitted n whole → k ≤ edge_count whole → ends ≡ take (2 * k) whole → FirstEdgesOf n whole k colors

-- Vizing's bound: D + 1 colours suffice.
pub record VizingColoring (n : ℕ) (ends lent : List ℕ) (report : Report ℕ) (colors : List ℕ) : Type 0 where
  -- Every admitted list with a place for each edge is accepted, and demand 3 holds of it,
  pub demand3 : Admitted n ends → length lent ≡ edge_count ends → Demand3Of n ends report colors
  -- and nothing else is accepted.
  pub admits : (days : ℕ) → report ≡ accepted days → Admitted n ends × (length lent ≡ edge_count ends)

-- A call that has the clause on every input.
abbrev pub MeetsClause : Call → Type 0
MeetsClause call = (n : ℕ) (ends lent : List ℕ) → VizingColoring n ends lent (call n ends lent).report (call n ends lent).colors

-- The clause over all inputs is the whole claim, and the definition has it. Proved as `clause_is_claim`.
pub record ClauseIsClaim : Type 0 where
  pub enough : (call : Call) → MeetsClause call → Demand3 call held
  pub definition : MeetsClause misra_gries
