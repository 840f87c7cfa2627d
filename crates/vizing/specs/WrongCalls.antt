-- Wrong calls, for all edges and for one more, and that each contradicts the contract's own clause on one list.
use Rattle.std.specs.Prelude.{ℕ, zero, suc, ◌≡◌, List, [], ◌∷◌, ◌++◌, length, take, replicate}
use Rattle.graph.specs.Edges.{edge_count}
use Rattle.graph.specs.Report.{accepted, refused}
use Rattle.graph.specs.Color.{no_color}
use Rattle.vizing.specs.MisraGries.{held}
use Rattle.vizing.specs.Demand3.{max_degree, Admitted, Accurate, Call, Demand3}
use Rattle.vizing.specs.Clause.{Demand3Of, MeetsClause}
use Rattle.vizing.specs.AddEdge.{Extendable, EdgeAdded, AddingCall, MeetsEdgeAdded}
use Rattle.vizing.specs.Demand3Examples.{list_p13}

-- A list with a place for each edge on which the outcome of a call is none that the clause allows.
pub record Falls (call : Call) : Type 0 where
  pub n : ℕ
  pub ends : List ℕ
  pub lent : List ℕ
  pub admitted : Admitted n ends
  pub size : length lent ≡ edge_count ends
  pub falls : Demand3Of n ends (call n ends lent).report (call n ends lent).colors → ⊥

-- ---- "a colourer that refuses all graphs"

abbrev pub refuses_all : ℕ → Call
refuses_all number n ends colors = record { report = refused number; colors = colors }

-- ---- "all edges colour 0"

abbrev pub all_zero : Call
all_zero n ends colors = record { report = accepted 1; colors = replicate (edge_count ends) 0 }

-- ---- "a colour slice left untouched"

abbrev pub leaves_slice : Call
leaves_slice n ends colors = record { report = accepted 0; colors = colors }

-- ---- "edge 0 done truly and the rest filled in"

-- As many numbers as `count` says, rising by one.
unfoldable pub rising : ℕ → ℕ → List ℕ
rising from zero = []
rising from (suc count) = from ∷ rising (suc from) count

-- Edge 0 has the colour that the run gives it, every other edge its own number.
unfoldable pub fills_in : Call
fills_in n ends colors = let m = edge_count ends in record { report = accepted m; colors = take m (take 1 (held n ends 1) ++ rising 1 m) }

abbrev pub filled_p13 : List ℕ
filled_p13 = (fills_in 4 list_p13 (replicate 4 no_color)).colors

-- Each of them falls. A call that falls has not the clause, and does not meet the claim. Proved as `wrong_calls_fall`.
pub record WrongCallsFall : Type 0 where
  pub refuses : (number : ℕ) → Falls (refuses_all number)
  pub zeros : Falls all_zero
  pub leaves : Falls leaves_slice
  pub fills : Falls fills_in
  -- On P13's list the last keeps to the accuracy rule, so only the first edges tell.
  pub accurate : Accurate 4 list_p13 filled_p13
  pub clause : (call : Call) → Falls call → MeetsClause call → ⊥
  pub claim : (call : Call) → Falls call → Demand3 call held → ⊥

-- ---- one edge more

-- An input that no check refuses on which the outcome of a call is none that the clause for one edge more allows.
pub record AddingFalls (call : AddingCall) : Type 0 where
  pub n : ℕ
  pub ends : List ℕ
  pub stored : List ℕ
  pub lent : List ℕ
  pub extendable : Extendable n ends stored lent
  pub falls : EdgeAdded n ends stored lent (call n ends stored lent).report (call n ends stored lent).colors → ⊥

-- A call that does not look at the stored colours.
abbrev pub unread : Call → AddingCall
unread call n ends stored colors = call n ends colors

-- The stored colours are kept, and the last edge has D.
abbrev pub keeps_stored : AddingCall
keeps_stored n ends stored colors = let D = max_degree ends (edge_count ends) n in record { report = accepted (suc D); colors = stored ++ (D ∷ []) }

-- The colours that P13's run holds before its last edge, kept.
abbrev pub kept_p13 : List ℕ
kept_p13 = (keeps_stored 4 list_p13 (0 ∷ 1 ∷ 2 ∷ []) (replicate 4 no_color)).colors

-- Each of them falls, and a call that falls has not the clause. Proved as `wrong_adding_calls_fall`.
pub record WrongAddingCallsFall : Type 0 where
  pub refuses : (number : ℕ) → AddingFalls (unread (refuses_all number))
  pub zeros : AddingFalls (unread all_zero)
  pub leaves : AddingFalls (unread leaves_slice)
  pub keeps : AddingFalls keeps_stored
  -- On P13's list the last keeps to the accuracy rule, so only colouring afresh tells.
  pub accurate : Accurate 4 list_p13 kept_p13
  pub clause : (call : AddingCall) → AddingFalls call → MeetsEdgeAdded call → ⊥
