-- Demand 3: the checks admit a list, and what the run gives for it.
use Prim.Native.Nat.{ℕ, zero, suc, ◌≤◌, ◌<◌, ◌+◌, ◌*◌, ◌%◌, ◌/◌}
use mathlib.Core.Path.{◌≡◌, refl, sym, ap, ◌∙◌}
use mathlib.Core.Logic.{inl, inr, ◌≢◌}
use mathlib.Core.List.{List, [], ◌∷◌}
use native.Mathlib.Omega.{arith}
use native.Mathlib.Nat.{not-suc-le-zero}
use native.Mathlib.Decide.{dec_lt}
use mathlib.Core.Bool.{not}
use mathlib.Core.Option.{Option, none, some}
use lib.ListN.{length, get_or, take}
use lib.Seq.{length-take-le}
use lib.Dec.{eqb}
use borrow.Author.Tests.{eq-eqb, eqb-true, not-false}
use Rattle.lists.proofs.Tests.{dec_eq}
use Rattle.graph.specs.Edges.{degree, edge_count, first_end, second_end, edges_at}
use Rattle.graph.proofs.TableLaws.{degree_bound}
use Rattle.vizing.specs.Demand3.{max_degree, Admitted, Accurate, FirstEdgesAlone, Demand3}
use Rattle.graph.specs.Check.{Check, ◌gives◌, first_refusal, answered, graph_checks, length_check, Passed}
use Rattle.graph.proofs.CheckLaws.{passed, passes, passed_inside, passed_first, passed_both, passed_one, first_passes, all_passed, answered_accepted, answered_refused, written_accepted}
use Rattle.vizing.specs.MisraGries.{has_loop, has_double_edge, simple_checks, misra_gries_checks, held, misra_gries}
use Rattle.vizing.proofs.FirstEdges.{first_end_take, second_end_take, edge_count_take, held_length, held_uncolored, held_take}
use Rattle.vizing.specs.Simple.{SameEnds, Incident}
use Rattle.vizing.proofs.SimpleLaws.{simple_no_loop, simple_no_double, passed_simple}
-- No name of it is used: the rows are to be checked before the laws, so that a wrong definition is refused for what it gives.
use Rattle.vizing.specs.Answers
use Rattle.graph.proofs.EdgeLaws.{at_edge}
use Rattle.graph.specs.Report.{accepted, Accepted}
use Rattle.graph.specs.Color.{days_of, colored}
use Rattle.graph.specs.Colored.{color_of, smallest_free_at}
use Rattle.graph.proofs.ColorLaws.{color_read, color_take, smallest_free_bound, smallest_none_has}
use Rattle.vizing.proofs.StepLaws.{Palette, degree_palette, run_keeps}
use Rattle.vizing.specs.Step.{Invariant}
use Rattle.vizing.specs.AddEdge.{ProperlyStored}

-- ---- D

pub degree_max : (ends : List ℕ) (m n v : ℕ) → v < n → degree ends m v ≤ max_degree ends m n
unfolding max_degree
degree_max ends m zero v h = absurd (not-suc-le-zero h)
degree_max ends m (suc n) v h = elim (dec_eq v n) [ inl p ↦ rw p (omega arith) | inr p ↦ omega (arith, degree_max ends m n v (omega arith)) ]

pub max_degree_attained : (ends : List ℕ) (m n : ℕ) → 0 < n → (v : ℕ) × (v < n) × (degree ends m v ≡ max_degree ends m n)
unfolding max_degree
max_degree_attained ends m zero h = absurd (not-suc-le-zero h)
max_degree_attained ends m (suc n) h = elim (dec_lt (degree ends m n) (max_degree ends m n)) [
  | yes less ↦ let r = max_degree_attained ends m n (some_node n less) in (r.0, omega (arith, r.1), omega (arith, r.2))
  | no more ↦ (n, omega arith, omega arith)
]
  where
    some_node : (n : ℕ) → degree ends m n < max_degree ends m n → 0 < n
    some_node zero less = absurd (not-suc-le-zero less)
    some_node (suc n) less = omega arith

pub max_degree_bound : (ends : List ℕ) (m n : ℕ) → max_degree ends m n ≤ m
unfolding max_degree
max_degree_bound ends m zero = omega arith
max_degree_bound ends m (suc v) = omega (arith, degree_bound ends m v, max_degree_bound ends m v)

-- The checks of the call pass exactly where demand 3 admits the list and the colour slice has one place for each edge.

-- ---- an admitted list passes

-- Each place of the end list is an end of an edge.
admitted_places : (n : ℕ) (ends : List ℕ) → Admitted n ends → (i : ℕ) → i < length ends → get_or ends i 0 < n
unfolding first_end second_end
admitted_places n ends a i h =
    let r = a.inside (i / 2) (omega (arith, a.even)) in
    elim (dec_eq (i % 2) 0) [
      | inl p ↦ let e : i ≡ 2 * (i / 2) = omega arith in rw e r.0
      | inr p ↦ let e : i ≡ 2 * (i / 2) + 1 = omega arith in rw e r.1
    ]

pub admitted_passed : (n : ℕ) (ends : List ℕ) → Admitted n ends → Passed n ends
admitted_passed n ends a = record { nodes = a.nodes; even = a.even; edges = a.edges; inside = admitted_places n ends a }

pub simple_passes : (n : ℕ) (ends : List ℕ) → Admitted n ends → first_refusal (simple_checks ends) ≡ none
simple_passes n ends a =
    let m = edge_count ends in
    first_passes (has_loop ends m) 6 ((has_double_edge ends m gives 7) ∷ []) (simple_no_loop ends m a.simple)
    ∙ first_passes (has_double_edge ends m) 7 [] (simple_no_double ends m a.simple)
    ∙ all_passed

pub checks_pass : (n : ℕ) (ends colors : List ℕ) → Admitted n ends → length colors ≡ edge_count ends → first_refusal (misra_gries_checks n ends colors) ≡ none
unfolding misra_gries_checks
checks_pass n ends colors a e =
    let m = edge_count ends in
    passed_first (graph_checks n ends) (length_check (length colors) m ∷ simple_checks ends) (passes n ends (admitted_passed n ends a))
    ∙ first_passes (not (eqb (length colors) m)) 5 (simple_checks ends) (ap not (eq-eqb (length colors) m e))
    ∙ simple_passes n ends a

-- ---- a list that passes is admitted

pub accepted_passed : (cs : List Check) (value days : ℕ) → answered cs value ≡ accepted days → first_refusal cs ≡ none
accepted_passed cs value days e = go (first_refusal cs) refl
  where
    go : (o : Option ℕ) → first_refusal cs ≡ o → first_refusal cs ≡ none
    go none f = f
    go (some k) f = let q = answered_refused cs k value f in let z : ◌≡◌ {A = ℕ} 0 1 = cc in absurd (omega arith)

pub simple_admitted : (n : ℕ) (ends : List ℕ) → Passed n ends → first_refusal (simple_checks ends) ≡ none → Admitted n ends
simple_admitted n ends p e =
    let loop = passed_one (has_loop ends (edge_count ends)) 6 ((has_double_edge ends (edge_count ends) gives 7) ∷ []) e in
    let double = passed_one (has_double_edge ends (edge_count ends)) 7 [] loop.1 in
    record { nodes = p.nodes; even = p.even; edges = p.edges; inside = passed_inside n ends p; simple = passed_simple ends (edge_count ends) loop.0 double.0 }

pub passed_admitted : (n : ℕ) (ends colors : List ℕ) → first_refusal (misra_gries_checks n ends colors) ≡ none → Admitted n ends × (length colors ≡ edge_count ends)
unfolding misra_gries_checks
passed_admitted n ends colors e =
    let m = edge_count ends in
    let graph = passed_both (graph_checks n ends) (length_check (length colors) m ∷ simple_checks ends) e in
    let size = passed_one (not (eqb (length colors) m)) 5 (simple_checks ends) graph.1 in
    (simple_admitted n ends (passed n ends graph.0) size.1, eqb-true (length colors) m (not-false (eqb (length colors) m) size.0))

-- ---- the first k edges of an admitted list

pub admitted_first : (n : ℕ) (ends : List ℕ) → Admitted n ends → (k : ℕ) → k ≤ edge_count ends → Admitted n (take (2 * k) ends)
admitted_first n ends a k h = record {
  nodes = a.nodes;
  even = let r = edge_count_take ends k h in omega (arith, r.0, r.1);
  edges = let r = edge_count_take ends k h in omega (arith, r.1, a.edges);
  inside = λ j b. let r = a.inside j (omega (arith, earlier j b)) in (rw (first_end_take ends k j (earlier j b)) r.0, rw (second_end_take ends k j (earlier j b)) r.1);
  simple = record {
    no_loop = λ j b e. a.simple.no_loop j (omega (arith, earlier j b)) (sym (first_end_take ends k j (earlier j b)) ∙ e ∙ second_end_take ends k j (earlier j b));
    no_double = λ i j b b' same. a.simple.no_double i j (omega (arith, earlier i b)) (omega (arith, earlier j b')) (same_ends_lem i j (earlier i b) (earlier j b') same);
  };
}
  where
    earlier : (j : ℕ) → j < edge_count (take (2 * k) ends) → j < k
    earlier j b = omega (arith, (edge_count_take ends k h).1)

    same_ends_lem : (i j : ℕ) → i < k → j < k → SameEnds (take (2 * k) ends) i j → SameEnds ends i j
    same_ends_lem i j b b' same = rw (first_end_take ends k i b, first_end_take ends k j b', second_end_take ends k i b, second_end_take ends k j b') at same

-- Misra-Gries meets demand 3.

-- ---- the call on an admitted list

misra_gries_accepts : (n : ℕ) (ends colors : List ℕ) → Admitted n ends → length colors ≡ edge_count ends → Accepted (misra_gries n ends colors).report
unfolding misra_gries colored
misra_gries_accepts n ends colors a e =
    let m = edge_count ends in
    let days = days_of (take m (held n ends m)) in
    (days, sym (answered_accepted (misra_gries_checks n ends colors) days (checks_pass n ends colors a e)))

pub misra_gries_colors : (n : ℕ) (ends colors : List ℕ) → Admitted n ends → length colors ≡ edge_count ends
    → (misra_gries n ends colors).colors ≡ take (edge_count ends) (held n ends (edge_count ends))
unfolding misra_gries colored
misra_gries_colors n ends colors a e =
    let m = edge_count ends in
    sym (written_accepted (misra_gries_checks n ends colors) colors (take m (held n ends m)) (checks_pass n ends colors a e))

-- ---- the first k edges

pub misra_gries_first : (n : ℕ) (ends : List ℕ) → Admitted n ends → (k : ℕ) → k ≤ edge_count ends → FirstEdgesAlone misra_gries held n ends k
unfolding held
misra_gries_first n ends a k h =
    let first = take (2 * k) ends in
    let count = (edge_count_take ends k h).1 in
    record {
      accepts = λ places e. misra_gries_accepts n first places (admitted_first n ends a k h) (e ∙ sym count);
      same = λ places e.
          misra_gries_colors n first places (admitted_first n ends a k h) (e ∙ sym count)
          ∙ ap (λ (m : ℕ). take m (held n first m)) count
          ∙ ap (take k) (held_take n ends k h);
      later = λ j from below.
          color_read (held n ends k) j 0 (omega (arith, held_length ends (edge_count ends) n k))
          ∙ held_uncolored ends (edge_count ends) n k j from;
    }

-- ---- a colour is left over at every node, whatever the colours

pub left_over_lem : (n : ℕ) (ends : List ℕ) → Admitted n ends → (l : List ℕ) (v : ℕ) → v < n
    → (c : ℕ) × (c ≤ max_degree ends (edge_count ends) n) × ((k : ℕ) → Incident ends (edge_count ends) k v → color_of l k ≢ c)
unfolding degree
left_over_lem n ends a l v h =
    let m = edge_count ends in
    let ks = edges_at ends m v in (
      smallest_free_at l ks,
      omega (arith, smallest_free_bound l ks, degree_max ends m n v h),
      λ k p. smallest_none_has l ks (omega (arith, degree_bound ends m v, a.edges)) k (at_edge ends m v k p.0 p.1),
    )

-- ---- demand 3

-- The colours from 0 to D are enough for a step.
pub admitted_palette : (n : ℕ) (ends : List ℕ) → Admitted n ends → Palette ends (edge_count ends) n (λ c. c ≤ max_degree ends (edge_count ends) n)
admitted_palette n ends a =
    let m = edge_count ends in
    degree_palette ends m n (max_degree ends m n) (omega (arith, max_degree_bound ends m n, a.edges)) (degree_max ends m n)

-- What the run holds after k edges: edges sharing an end differ, and the first k have colours from 0 to D.
pub kept : (n : ℕ) (ends : List ℕ) → Admitted n ends → (k : ℕ) → k ≤ edge_count ends → Invariant ends (edge_count ends) (λ c. c ≤ max_degree ends (edge_count ends) n) k (held n ends k)
unfolding held
kept n ends a = let m = edge_count ends in run_keeps ends m n (λ c. c ≤ max_degree ends m n) a.simple a.inside a.edges (admitted_palette n ends a)

-- The first k colours of any list that meets this are properly stored,
pub kept_proper : (n : ℕ) (ends : List ℕ) → Admitted n ends → (k : ℕ) → k ≤ edge_count ends → (l : List ℕ)
    → Invariant ends (edge_count ends) (λ c. c ≤ max_degree ends (edge_count ends) n) k l → ProperlyStored n ends (take k l)
kept_proper n ends a k few l I =
    let m = edge_count ends in
    let size : length (take k l) ≡ k = length-take-le k l (omega (arith, I.size, a.edges)) in
    record {
      range = λ j h. let b : j < k = omega (arith, h, size) in rw (color_take l k j b) (I.done j b);
      sharing = λ i j v p q differ e.
          let hi : i < k = omega (arith, p.0, size) in
          let hj : j < k = omega (arith, q.0, size) in
          differ (I.proper i j v (omega (arith, hi, few), p.1) (omega (arith, hj, few), q.1)
          (λ z. omega (arith, I.done i hi, max_degree_bound ends m n, a.edges))
          (sym (color_take l k i hi) ∙ e ∙ color_take l k j hj));
    }

-- and after the last edge they are accurate.
pub kept_accurate : (n : ℕ) (ends : List ℕ) → Admitted n ends → (l : List ℕ)
    → Invariant ends (edge_count ends) (λ c. c ≤ max_degree ends (edge_count ends) n) (edge_count ends) l → Accurate n ends (take (edge_count ends) l)
kept_accurate n ends a l I =
    let m = edge_count ends in
    let size : length (take m l) ≡ m = length-take-le m l (omega (arith, I.size, a.edges)) in
    let p = kept_proper n ends a m (omega arith) l I in
    record {
      range = λ k h. p.range k (omega (arith, h, size));
      sharing = λ i j v at_i at_j. p.sharing i j v (omega (arith, at_i.0, size), at_i.1) (omega (arith, at_j.0, size), at_j.1);
      left_over = left_over_lem n ends a (take m l);
    }

pub run_accurate : (n : ℕ) (ends : List ℕ) → Admitted n ends → Accurate n ends (take (edge_count ends) (held n ends (edge_count ends)))
run_accurate n ends a = let m = edge_count ends in kept_accurate n ends a (held n ends m) (kept n ends a m (omega arith))

pub demand3 : Demand3 misra_gries held
demand3 n ends colors a e = record {
  accepts = misra_gries_accepts n ends colors a e;
  accurate = rw (misra_gries_colors n ends colors a e) (run_accurate n ends a);
  first = misra_gries_first n ends a;
}
