-- Laws of simple graphs: no loops and no double edges, ends, and how many edges stand at a node.
use Prim.Native.Nat.{ℕ, ◌<◌}
use mathlib.Core.Path.{◌≡◌, sym, ◌∙◌, refl}
use mathlib.Core.Logic.{inl, inr, ◌≢◌}
use mathlib.Core.List.{List, [], ◌∷◌, map}
use native.Mathlib.Omega.{arith}
use lib.ListN.{length-map}
use mathlib.Core.Bool.{true, false, ◌&&◌, true≢false}
use native.Mathlib.Decide.{dec_lt}
use lib.Dec.{eqb}
use borrow.Author.Tests.{eqb-true, eqb-false, eq-eqb}
use Rattle.lists.proofs.MemberLaws.{dec_mem, nodup_bound}
use Rattle.graph.specs.Edges.{far_end, edges_at, first_end, second_end, degree, is_loop}
use Rattle.graph.proofs.EdgeLaws.{far_first, far_second, far_at_lem, far_far, two_ends, edge_at, at_edge, edges_at_nodup}
use Rattle.vizing.specs.Simple.{Simple, Incident, SameEnds}
use Rattle.vizing.proofs.AlternatingPath.{Graph}
use Rattle.lists.specs.Member.{Mem, Nodup}
use Rattle.lists.proofs.Tests.{by-test, dec_eq, and_true, true_and, or_true, true_or}
use Rattle.lists.specs.Search.{any}
use Rattle.lists.proofs.SearchLaws.{any_false, any_true}
use Rattle.vizing.specs.MisraGries.{has_loop, same_ends, has_double_edge}

-- ---- a list of ends without loops and double edges as a graph in the sense of the theory

module _ (ends : List ℕ) (m : ℕ) (S : Simple ends m) where
  far_differs : (k v : ℕ) → Incident ends m k v → far_end ends k v ≢ v
  far_differs k v (h, inl p) e = S.no_loop k h (p ∙ sym e ∙ far_first ends k v p)
  far_differs k v (h, inr p) e = S.no_loop k h (sym (far_second ends k v p) ∙ e ∙ sym p)

  same_edge : (i j v : ℕ) → Incident ends m i v → Incident ends m j v → far_end ends i v ≡ far_end ends j v → i ≡ j
  same_edge i j v (g, inl p) (h, inl q) e = S.no_double i j g h (inl (cc, cc (far_first ends i v p, far_first ends j v q)))
  same_edge i j v (g, inl p) (h, inr q) e = S.no_double i j g h (inr (cc, cc (far_first ends i v p, far_second ends j v q)))
  same_edge i j v (g, inr p) (h, inl q) e = S.no_double i j g h (inr (cc (far_second ends i v p, far_first ends j v q), cc))
  same_edge i j v (g, inr p) (h, inr q) e = S.no_double i j g h (inl (cc (far_second ends i v p, far_second ends j v q), cc))

  pub simple_graph : Graph (Incident ends m) (far_end ends)
  simple_graph = record {
    far_at_lem = λ k v a. (a.0, far_at_lem ends k v a.1);
    far_far = λ k v a. far_far ends k v a.1;
    two_ends = λ k v w a b. two_ends ends k v w a.1 b.1;
    no_loop = far_differs;
    no_double = same_edge;
    dec_at = λ k v. elim (dec_mem k (edges_at ends m v)) [ inl i ↦ inl (edge_at ends m v k i) | inr n ↦ inr (λ a. n (at_edge ends m v k a.0 a.1)) ];
  }

-- ---- in a simple graph a node has fewer edges than there are nodes

module _ (ends : List ℕ) (m n : ℕ) (S : Simple ends m) (inside : (k : ℕ) → k < m → (first_end ends k < n) × (second_end ends k < n)) (v : ℕ) where
  -- A far end is that of some edge of the list.
  far_of : (w : ℕ) (ks : List ℕ) → Mem w (map (λ (k : ℕ). far_end ends k v) ks) → (k : ℕ) × Mem k ks × (w ≡ far_end ends k v)
  far_of w [] x' = elim x' [ ]
  far_of w (k ∷ ks) (inl p) = (k, inl refl, p)
  far_of w (k ∷ ks) (inr p) = let r = far_of w ks p in (r.0, inr r.1, r.2)

  fars_nodup : (ks : List ℕ) → Nodup ks → ((k : ℕ) → Mem k ks → Incident ends m k v) → Nodup (map (λ (k : ℕ). far_end ends k v) ks)
  fars_nodup [] u at = tt
  fars_nodup (k ∷ ks) u at = (
    λ p. let r = far_of (far_end ends k v) ks p in
        let e = (simple_graph ends m S).no_double k r.0 v (at k (inl refl)) (at r.0 (inr r.1)) r.2 in
        u.0 (rw (sym e) at r.1),
    fars_nodup ks u.1 (λ j p. at j (inr p)),
  )

  far_inside : (k : ℕ) → Incident ends m k v → far_end ends k v < n
  far_inside k (h, a) = elim (far_at_lem ends k v a) [ inl p ↦ rw (← p) (inside k h).0 | inr p ↦ rw (← p) (inside k h).1 ]

  pub degree_below : v < n → degree ends m v < n
  unfolding degree
  degree_below h =
      let ks = edges_at ends m v in
      let l = length-map ks (λ (k : ℕ). far_end ends k v) in
      omega (
        arith,
        nodup_bound n (v ∷ map (λ (k : ℕ). far_end ends k v) ks) (
          λ p. let r = far_of v ks p in (simple_graph ends m S).no_loop r.0 v (edge_at ends m v r.0 r.1) (sym r.2),
          fars_nodup ks (edges_at_nodup ends m v) (λ k p. edge_at ends m v k p),
        )
            (λ w p. elim p [ inl e ↦ rw e h | inr q ↦ let r = far_of w ks q in rw r.2 (far_inside r.0 (edge_at ends m v r.0 r.1)) ]),
      )

-- ---- the tests

both_equal : (a b c d : ℕ) → eqb a b && eqb c d ≡ true → (a ≡ b) × (c ≡ d)
both_equal a b c d e = let r = and_true (eqb a b) (eqb c d) e in (eqb-true a b r.0, eqb-true c d r.1)

equal_both : (a b c d : ℕ) → a ≡ b → c ≡ d → eqb a b && eqb c d ≡ true
equal_both a b c d p q = true_and (eqb a b) (eqb c d) (eq-eqb a b p) (eq-eqb c d q)

same_ends_true : (ends : List ℕ) (i j : ℕ) → same_ends ends i j ≡ true → SameEnds ends i j
unfolding same_ends
same_ends_true ends i j e =
    elim (or_true (eqb (first_end ends i) (first_end ends j) && eqb (second_end ends i) (second_end ends j)) (eqb (first_end ends i) (second_end ends j) && eqb (second_end ends i) (first_end ends j)) e) [
      | inl t ↦ inl (both_equal (first_end ends i) (first_end ends j) (second_end ends i) (second_end ends j) t)
      | inr t ↦ inr (both_equal (first_end ends i) (second_end ends j) (second_end ends i) (first_end ends j) t)
    ]

true_same_ends : (ends : List ℕ) (i j : ℕ) → SameEnds ends i j → same_ends ends i j ≡ true
unfolding same_ends
true_same_ends ends i j (inl (p, q)) = rw (equal_both (first_end ends i) (first_end ends j) (second_end ends i) (second_end ends j) p q)
true_same_ends ends i j (inr (p, q)) =
    true_or (eqb (first_end ends i) (first_end ends j) && eqb (second_end ends i) (second_end ends j)) (eqb (first_end ends i) (second_end ends j) && eqb (second_end ends i) (first_end ends j))
    (equal_both (first_end ends i) (second_end ends j) (second_end ends i) (first_end ends j) p q)

-- A simple graph passes both tests.
pub simple_no_loop : (ends : List ℕ) (m : ℕ) → Simple ends m → has_loop ends m ≡ false
unfolding has_loop is_loop
simple_no_loop ends m simple =
    by-test (any (is_loop ends) m)
    (λ t. let r = any_true (is_loop ends) m t in absurd (simple.no_loop r.0 r.1 (eqb-true (first_end ends r.0) (second_end ends r.0) r.2)))
    (λ t. t)

pub simple_no_double : (ends : List ℕ) (m : ℕ) → Simple ends m → has_double_edge ends m ≡ false
unfolding has_double_edge
simple_no_double ends m simple =
    by-test (any (λ j. any (λ i. same_ends ends i j) j) m)
    (λ t.
    let r = any_true (λ j. any (λ i. same_ends ends i j) j) m t in
    let s = any_true (λ i. same_ends ends i r.0) r.0 r.2 in
    let e = simple.no_double s.0 r.0 (omega (arith, r.1, s.1)) r.1 (same_ends_true ends s.0 r.0 s.2) in
    absurd (omega (arith, s.1, e)))
    (λ t. t)

-- A graph that passes both tests is simple.
pub passed_simple : (ends : List ℕ) (m : ℕ) → has_loop ends m ≡ false → has_double_edge ends m ≡ false → Simple ends m
unfolding has_loop is_loop has_double_edge
passed_simple ends m loop double = record {
  no_loop = λ k h. eqb-false (first_end ends k) (second_end ends k) (any_false (is_loop ends) m loop k h);
  no_double = λ i j hi hj same. elim (dec_eq i j) [
    | inl e ↦ e
    | inr n ↦ absurd (elim (dec_lt i j) [ yes h ↦ earlier i j hj h same | no h ↦ earlier j i hi (omega arith) (other i j same) ])
  ];
}
  where
    other : (i j : ℕ) → SameEnds ends i j → SameEnds ends j i
    other i j (inl (p, q)) = inl (sym p, sym q)
    other i j (inr (p, q)) = inr (sym q, sym p)

    earlier : (i j : ℕ) → j < m → i < j → SameEnds ends i j → ⊥
    earlier i j hj h same =
        true≢false (sym (true_same_ends ends i j same) ∙ any_false (λ i'. same_ends ends i' j) j (any_false (λ j'. any (λ i'. same_ends ends i' j') j') m double j hj) i h)
