-- One edge more: the Misra-Gries step of the last edge alone, from stored colours of the others.
use Rattle.std.specs.Prelude.{ℕ, suc, ◌-◌, ◌*◌, ◌≤◌, ◌<◌, ◌≡◌, ◌≢◌, List, [], ◌∷◌, ◌++◌, Bool, not, ◌&&◌, ◌||◌, length, take, replicate, eqb, ltb}
use Rattle.lists.specs.Search.{any}
use Rattle.graph.specs.Report.{Report, accepted, Accepted}
use Rattle.graph.specs.Edges.{edge_count, first_end, second_end}
use Rattle.graph.specs.Check.{Check, ◌gives◌, graph_checks}
use Rattle.graph.specs.Color.{Outcome, colored, no_color}
use Rattle.graph.specs.Colored.{color_of}
use Rattle.vizing.specs.Simple.{Incident}
use Rattle.vizing.specs.Demand3.{max_degree, Admitted, Accurate}
use Rattle.vizing.specs.MisraGries.{step, held, simple_checks, misra_gries}

-- ---- the checks

-- Edge k has v as an end.
unfoldable pub has_end : List ℕ → ℕ → ℕ → Bool
has_end ends k v = eqb (first_end ends k) v || eqb (second_end ends k) v

-- Edges i and j share an end.
unfoldable pub share_end : List ℕ → ℕ → ℕ → Bool
share_end ends i j = has_end ends i (first_end ends j) || has_end ends i (second_end ends j)

-- "a stored colour is above D", "D taken over all k + 1". 65,535 always is.
unfoldable pub has_color_above : ℕ → List ℕ → List ℕ → Bool
has_color_above n ends stored = any (λ j. ltb (max_degree ends (edge_count ends) n) (color_of stored j)) (length stored)

-- "two of the k matches sharing an end have the same colour"
unfoldable pub has_equal_colors : List ℕ → List ℕ → Bool
has_equal_colors ends stored = any (λ j. any (λ i. share_end ends i j && eqb (color_of stored i) (color_of stored j)) j) (length stored)

-- "11, a stored colour is above D or two of the k matches sharing an end have the same colour, after 7"
unfoldable pub stored_checks : ℕ → List ℕ → List ℕ → List Check
stored_checks n ends stored = (has_color_above n ends stored gives 11) ∷ (has_equal_colors ends stored gives 11) ∷ []

-- "5 unless the stored colours are one fewer than the matches (none for none) and the lent slice has the matches' number"
unfoldable pub add_edge_checks : ℕ → List ℕ → List ℕ → List ℕ → List Check
add_edge_checks n ends stored colors =
    graph_checks n ends
    ++ (not (eqb (length stored) (edge_count ends - 1) && eqb (length colors) (edge_count ends)) gives 5)
    ∷ (simple_checks ends ++ stored_checks n ends stored)

-- ---- the call

-- A working list of 4,096 colours that begins with the stored ones.
unfoldable pub stored_list : List ℕ → List ℕ
stored_list stored = stored ++ replicate (4096 - length stored) no_color

-- "takes k + 1 matches and the colours of the first k, does the single Misra-Gries step for the last, and gives k + 1 colours". "With no
-- matches the colours stay empty": there is no step, and what stands for it here is not looked at.
unfoldable pub add_edge : ℕ → List ℕ → List ℕ → List ℕ → Outcome
add_edge n ends stored colors =
    let m = edge_count ends in
    colored (add_edge_checks n ends stored colors) colors (take m (step ends m n (stored_list stored) (m - 1)))

-- ---- what holds of it: a clause of the call's contract

-- Stored colours that 11 does not refuse.
pub record ProperlyStored (n : ℕ) (ends stored : List ℕ) : Type 0 where
  pub range : (j : ℕ) → j < length stored → color_of stored j ≤ max_degree ends (edge_count ends) n
  pub sharing : (i j v : ℕ) → Incident ends (length stored) i v → Incident ends (length stored) j v → i ≢ j → color_of stored i ≢ color_of stored j

-- An input that no check refuses.
pub record Extendable (n : ℕ) (ends stored lent : List ℕ) : Type 0 where
  pub admitted : Admitted n ends
  pub one_fewer : length stored ≡ edge_count ends - 1
  pub size : length lent ≡ edge_count ends
  pub proper : ProperlyStored n ends stored

pub record EdgeAdded (n : ℕ) (ends stored lent : List ℕ) (report : Report ℕ) (colors : List ℕ) : Type 0 where
  -- What no check refuses is accepted, and nothing else.
  pub accepts : Extendable n ends stored lent → Accepted report
  pub admits : (days : ℕ) → report ≡ accepted days → Extendable n ends stored lent
  -- "For other accepted colours the sharing and range parts of the accuracy rule still hold, D taken over all k + 1."
  pub accurate : (days : ℕ) → report ≡ accepted days → Accurate n ends colors
  -- "If the k colours are those that misra_gries_edge_color gives, the outcome equals colouring the whole list afresh."
  pub afresh : (places : List ℕ) → length places ≡ edge_count ends - 1 → stored ≡ (misra_gries n (take (2 * (edge_count ends - 1)) ends) places).colors
      → (report ≡ (misra_gries n ends lent).report) × (colors ≡ (misra_gries n ends lent).colors)

-- ---- a list built up one edge at a time

-- A call gives an outcome for a node count, an end list, the stored colours and the lent slice.
abbrev pub AddingCall : Type 0
AddingCall = ℕ → List ℕ → List ℕ → List ℕ → Outcome

-- A call that has the clause on every input.
abbrev pub MeetsEdgeAdded : AddingCall → Type 0
MeetsEdgeAdded call = (n : ℕ) (ends stored lent : List ℕ) → EdgeAdded n ends stored lent (call n ends stored lent).report (call n ends stored lent).colors

-- What a caller may have of the first k edges: the outcome of misra_gries_edge_color, of no edges among others, or that of one edge more on the
-- colours that he had.
pub data BuiltUp (call : AddingCall) (n : ℕ) (ends : List ℕ) : ℕ → Outcome → Type 0 where
  whole : (k : ℕ) (lent : List ℕ) → length lent ≡ k → BuiltUp call n ends k (misra_gries n (take (2 * k) ends) lent)
  added : (k : ℕ) (outcome : Outcome) (lent : List ℕ) → BuiltUp call n ends k outcome → length lent ≡ suc k
      → BuiltUp call n ends (suc k) (call n (take (2 * suc k) ends) outcome.colors lent)

-- However the first k edges of an admitted list were built up, from the empty list, one edge at a time, or from a whole call: report and colours
-- are those that misra_gries_edge_color gives them, in whatever slice of k places, and the colours are what demand 3's run holds after its kth edge. The definition is
-- such a call. Proved as `one_by_one`.
pub record OneByOne : Type 0 where
  pub definition : MeetsEdgeAdded add_edge
  pub afresh : (call : AddingCall) → MeetsEdgeAdded call → (n : ℕ) (ends : List ℕ) → Admitted n ends → {k : ℕ} {outcome : Outcome} → BuiltUp call n ends k outcome
      → k ≤ edge_count ends → (lent : List ℕ) → length lent ≡ k
      → (outcome.report ≡ (misra_gries n (take (2 * k) ends) lent).report) × (outcome.colors ≡ (misra_gries n (take (2 * k) ends) lent).colors)
  pub run : (call : AddingCall) → MeetsEdgeAdded call → (n : ℕ) (ends : List ℕ) → Admitted n ends → {k : ℕ} {outcome : Outcome} → BuiltUp call n ends k outcome
      → k ≤ edge_count ends → outcome.colors ≡ take k (held n ends k)
