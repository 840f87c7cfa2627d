-- The clause of the contract, that it is the claim, and the wrong calls against it.
use Prim.Native.Nat.{ℕ, zero, suc, ◌<◌, ◌*◌, ◌≤◌}
use mathlib.Core.Path.{◌≡◌, refl, ◌∙◌, sym, ap}
use mathlib.Core.Logic.{inl, inr}
use mathlib.Core.List.{[], ◌∷◌, List}
use native.Mathlib.Omega.{arith}
use lib.ListN.{take, replicate, length, length-replicate, length-take, get_or}
use native.Mathlib.Nat.{min-le_left}
use lib.Seq.{length-take-le}
use Rattle.lists.specs.Member.{elem}
use Rattle.lists.specs.Search.{all_below, any, first_place, first_that}
use Rattle.graph.specs.Edges.{first_end, second_end, is_loop, far_end, second_at, first_edges, second_edges, edges_at, degree, edge_count}
use Rattle.graph.specs.Check.{first_refusal, graph_checks}
use Rattle.graph.specs.Color.{smallest_from, smallest_free, no_color, days_of, colored}
use Rattle.graph.specs.Colored.{color_of, is_colored, colored_among, smallest_free_at}
use Rattle.vizing.specs.MisraGries.{edge_of_color, is_free, store, joins, first_joining, last_of, fan_from, fan_of, path, swap, exchange, first_free_place, rotate, find, step, step_held, held_after, held, has_loop, same_ends, has_double_edge, misra_gries_checks, misra_gries}
use Rattle.vizing.specs.Simple.{Incident}
use Rattle.vizing.specs.Demand3.{max_degree, Admitted, Call, Demand3, Accurate}
use Rattle.vizing.proofs.Theorem.{accepted_passed, passed_admitted, misra_gries_colors, misra_gries_first, admitted_first, demand3, left_over_lem}
use Rattle.vizing.specs.Demand3Examples.{triangle, list_p13}
use Rattle.graph.specs.Report.{accepted, refused, Accepted}
use Rattle.vizing.proofs.FirstEdges.{held_length, edge_count_take}
use Rattle.vizing.specs.Clause.{Demand3Of, MeetsClause, ClauseIsClaim}
use Rattle.vizing.specs.WrongCalls.{Falls, WrongCallsFall, refuses_all, all_zero, leaves_slice, rising, fills_in, filled_p13}

-- Demand 3 is neither empty nor loose: lists that it admits, where D + 1 colours are needed and where a later edge changes colours given before.

-- ---- both are admitted

triangle_admitted : Admitted 3 triangle
unfolding misra_gries_checks first_refusal graph_checks all_below has_loop has_double_edge any is_loop same_ends first_end second_end
triangle_admitted = (passed_admitted 3 triangle (replicate 3 no_color) refl).0

pub p13_admitted : Admitted 4 list_p13
unfolding misra_gries_checks first_refusal graph_checks all_below has_loop has_double_edge any is_loop same_ends first_end second_end
p13_admitted = (passed_admitted 4 list_p13 (replicate 4 no_color) refl).0

triangle_max_degree : max_degree triangle 3 3 ≡ 2
unfolding max_degree degree edges_at first_edges second_edges second_at is_loop first_end second_end
triangle_max_degree = refl

pub p13_max_degree : max_degree list_p13 4 4 ≡ 3
unfolding max_degree degree edges_at first_edges second_edges second_at is_loop first_end second_end
p13_max_degree = refl

-- ---- what their runs hold

-- The triangle's after all edges; P13's after 1, 3 and 4 edges.
pub runs :
    (take 3 (held 3 triangle 3) ≡ 0 ∷ 1 ∷ 2 ∷ [])
    × (take 1 (held 4 list_p13 1) ≡ 0 ∷ [])
    × (take 3 (held 4 list_p13 3) ≡ 0 ∷ 1 ∷ 2 ∷ [])
    × (take 4 (held 4 list_p13 4) ≡ 2 ∷ 1 ∷ 0 ∷ 2 ∷ [])
unfolding held held_after step_held step find rotate first_free_place first_place first_that exchange swap path fan_of fan_from last_of first_joining joins elem store smallest_free_at smallest_free smallest_from colored_among is_free edge_of_color is_colored color_of edges_at first_edges second_edges second_at is_loop far_end first_end second_end
runs = (refl, refl, refl, refl)

-- ---- D + 1 colours are needed

-- Colour 2 is given, and it is D.
triangle_colors : (misra_gries 3 triangle (replicate 3 no_color)).colors ≡ 0 ∷ 1 ∷ 2 ∷ []
triangle_colors = misra_gries_colors 3 triangle (replicate 3 no_color) triangle_admitted refl ∙ runs.0

-- At node 1 no colour below D is left over.
triangle_used : (c : ℕ) → c < 2 → (k : ℕ) × Incident triangle 3 k 1 × (color_of (misra_gries 3 triangle (replicate 3 no_color)).colors k ≡ c)
unfolding color_of first_end second_end
triangle_used zero h = rw triangle_colors (0, (omega arith, inr refl), refl)
triangle_used (suc zero) h = rw triangle_colors (1, (omega arith, inl refl), refl)
triangle_used (suc (suc c)) h = let z : ⊥ = omega arith in absurd z

-- ---- a later edge changes colours given before

-- The first three edges of P13 alone get 0,1,2, and the whole run ends with 2,1,0 for them.
pub p13_first_three : (misra_gries 4 (take 6 list_p13) (replicate 3 no_color)).colors ≡ 0 ∷ 1 ∷ 2 ∷ []
p13_first_three = (misra_gries_first 4 list_p13 p13_admitted 3 (omega arith)).same (replicate 3 no_color) refl ∙ runs.2

pub p13_colors : (misra_gries 4 list_p13 (replicate 4 no_color)).colors ≡ 2 ∷ 1 ∷ 0 ∷ 2 ∷ []
p13_colors = misra_gries_colors 4 list_p13 (replicate 4 no_color) p13_admitted refl ∙ runs.3

-- ---- the clause over all inputs is demand 3, and the definition has it

-- Demand 3 of a call, on every admitted list with a place for each edge.
abbrev OnEachList : Call → Type 0
OnEachList call = (n : ℕ) (ends lent : List ℕ) → Admitted n ends → length lent ≡ edge_count ends → Demand3Of n ends (call n ends lent).report (call n ends lent).colors

-- A call that has it on every list meets the whole claim, by its own answers: the first k edges are a list of their own.
list_demand3 : (call : Call) → OnEachList call → Demand3 call held
list_demand3 call c n ends lent a l = record {
  accepts = (c n ends lent a l).accepts;
  accurate = (c n ends lent a l).accurate;
  first = λ k h. record {
    accepts = λ places e. (part k h places e).accepts;
    same = λ places e. ((part k h places e).first ends k a h refl).same;
    later = λ j from below.
        let r = (part k h (replicate k no_color) (length-replicate {A = ℕ} k no_color)).first ends k a h refl in
        r.later j (omega (arith, from, ap length r.same, length-take {A = ℕ} k (held n ends k), min-le_left k (length (held n ends k)))) below;
  };
}
  where
    part : (k : ℕ) → k ≤ edge_count ends → (places : List ℕ) → length places ≡ k → Demand3Of n (take (2 * k) ends) (call n (take (2 * k) ends) places).report (call n (take (2 * k) ends) places).colors
    part k h places e = c n (take (2 * k) ends) places (admitted_first n ends a k h) (e ∙ sym (edge_count_take ends k h).1)

-- A call that has the clause on every input meets demand 3.
pub clause_demand3 : (call : Call) → MeetsClause call → Demand3 call held
clause_demand3 call c = list_demand3 call (λ n ends lent a l. (c n ends lent).demand3 a l)

held_size : (n : ℕ) (ends : List ℕ) (k : ℕ) → length (held n ends k) ≡ 4096
unfolding held
held_size n ends k = held_length ends (edge_count ends) n k

-- And one that meets demand 3 has its part of the clause on every list.
demand3_clause : (call : Call) → Demand3 call held → OnEachList call
demand3_clause call d n ends lent a l = record {
  accepts = (d n ends lent a l).accepts;
  accurate = (d n ends lent a l).accurate;
  first = λ whole k b h e.
      let r = (d n whole (replicate (edge_count whole) no_color) b (length-replicate {A = ℕ} (edge_count whole) no_color)).first k h in
      let same = ap (λ (x : List ℕ). (call n x lent).colors) e ∙ r.same lent (l ∙ (ap edge_count e ∙ (edge_count_take whole k h).1)) in
      record {
        same = same;
        later = λ j from below. r.later j (omega (arith, from, ap length same, length-take-le k (held n whole k) (omega (arith, held_size n whole k, b.edges)))) below;
      };
}

-- Nothing but an admitted list with a place for each edge is accepted.
accepted_admitted : (n : ℕ) (ends lent : List ℕ) (days : ℕ) → (misra_gries n ends lent).report ≡ accepted days → Admitted n ends × (length lent ≡ edge_count ends)
unfolding misra_gries colored
accepted_admitted n ends lent days e =
    passed_admitted n ends lent (accepted_passed (misra_gries_checks n ends lent) (days_of (take (edge_count ends) (held n ends (edge_count ends)))) days e)

pub misra_gries_clause : MeetsClause misra_gries
misra_gries_clause n ends lent = record { demand3 = demand3_clause misra_gries demand3 n ends lent; admits = accepted_admitted n ends lent }

pub clause_is_claim : ClauseIsClaim
clause_is_claim = record { enough = clause_demand3; definition = misra_gries_clause }

-- ---- Four wrong calls: each contradicts the contract's own clause on one list, at the part of it that is named

-- Such a call does not have the clause, and does not meet demand 3.
falls_clause : (call : Call) → Falls call → MeetsClause call → ⊥
falls_clause call f c = f.falls ((c f.n f.ends f.lent).demand3 f.admitted f.size)

falls_demand3 : (call : Call) → Falls call → Demand3 call held → ⊥
falls_demand3 call f d = f.falls (demand3_clause call d f.n f.ends f.lent f.admitted f.size)

-- The triangle, and P13's list.
on_triangle : (call : Call) → (Demand3Of 3 triangle (call 3 triangle (replicate 3 no_color)).report (call 3 triangle (replicate 3 no_color)).colors → ⊥) → Falls call
on_triangle call f = record { n = 3; ends = triangle; lent = replicate 3 no_color; admitted = triangle_admitted; size = refl; falls = f }

on_p13 : (call : Call) → (Demand3Of 4 list_p13 (call 4 list_p13 (replicate 4 no_color)).report (call 4 list_p13 (replicate 4 no_color)).colors → ⊥) → Falls call
on_p13 call f = record { n = 4; ends = list_p13; lent = replicate 4 no_color; admitted = p13_admitted; size = refl; falls = f }

-- ---- "a colourer that refuses all graphs"

pub refused_not_accepted : (number : ℕ) → Accepted {A = ℕ} (refused number) → ⊥
refused_not_accepted number (days, e) = let z : ◌≡◌ {A = ℕ} 0 1 = cc in omega arith

-- Acceptance fails.
pub refuses_all_falls : (number : ℕ) → Falls (refuses_all number)
refuses_all_falls number = on_triangle (refuses_all number) (λ d. refused_not_accepted number d.accepts)

-- ---- "all edges colour 0"

-- Sharing fails: edges 0 and 1 share node 1.
pub all_zero_falls : Falls all_zero
unfolding color_of first_end second_end
all_zero_falls = on_triangle all_zero (λ d. d.accurate.sharing 0 1 1 (omega arith, inr refl) (omega arith, inl refl) (λ e. omega (arith, e)) refl)

-- ---- "a colour slice left untouched"

-- The range fails: the slice was lent with a number above D.
pub leaves_slice_falls : Falls leaves_slice
unfolding color_of
leaves_slice_falls = on_triangle leaves_slice (λ d.
    let r : no_color ≤ max_degree triangle 3 3 = d.accurate.range 0 (omega arith) in
    omega (arith, r, triangle_max_degree))

-- ---- "edge 0 done truly and the rest filled in"

pub filled_p13_lem : filled_p13 ≡ 0 ∷ 1 ∷ 2 ∷ 3 ∷ []
unfolding fills_in rising
filled_p13_lem = rw runs.1

-- On P13's list it keeps to the accuracy rule, so only the first edges tell.
pub fills_in_accurate : Accurate 4 list_p13 filled_p13
unfolding color_of
fills_in_accurate = record {
  range = λ k h. rw (p13_max_degree, own k h) (omega arith);
  sharing = λ i j v p q differ e. differ (sym (own i p.0) ∙ e ∙ own j q.0);
  left_over = left_over_lem 4 list_p13 p13_admitted filled_p13;
}
  where
    own : (k : ℕ) → k < 4 → color_of filled_p13 k ≡ k
    own zero h = rw filled_p13_lem
    own (suc zero) h = rw filled_p13_lem
    own (suc (suc zero)) h = rw filled_p13_lem
    own (suc (suc (suc zero))) h = rw filled_p13_lem
    own (suc (suc (suc (suc k)))) h = let z : ⊥ = omega arith in absurd z

-- The first edges fail, at k = 4 of the list itself: its run then holds 2,1,0,2.
pub fills_in_falls : Falls fills_in
fills_in_falls = on_p13 fills_in (λ d.
    let e : ◌≡◌ {A = ℕ} 0 2 = ap (λ (l : List ℕ). get_or l 0 0) (sym filled_p13_lem ∙ (d.first list_p13 4 p13_admitted (omega arith) refl).same ∙ runs.3) in
    omega (arith, e))

pub wrong_calls_fall : WrongCallsFall
wrong_calls_fall = record { refuses = refuses_all_falls; zeros = all_zero_falls; leaves = leaves_slice_falls; fills = fills_in_falls; accurate = fills_in_accurate; clause = falls_clause; claim = falls_demand3 }
