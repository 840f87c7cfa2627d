-- The search for a double edge, node by node: two edges at one node with the same far end. For each node the far ends that
-- came before are stamped with the node's number and one more, in one list for all nodes.
use Prim.Native.Nat.{ℕ, zero, suc, ◌+◌, ◌≤◌, ◌<◌}
use mathlib.Core.Path.{◌≡◌, refl, sym, ap, ◌∙◌, subst}
use mathlib.Core.Logic.{inl, inr, ◌≢◌}
use mathlib.Core.List.{List, [], ◌∷◌}
use mathlib.Core.Bool.{Bool, true, false}
use native.Mathlib.Omega.{arith}
use native.Mathlib.Nat.{not-suc-le-zero}
use native.Mathlib.Decide.{dec_lt}
use lib.ListN.{length, get_or, replicate}
use lib.Dec.{eqb}
use borrow.Author.Tests.{eqb-false}
use Rattle.lists.proofs.Tests.{by-test, dec_eq}
use Rattle.lists.specs.Member.{Mem, Nodup}
use Rattle.lists.proofs.MemberLaws.{mem_get_or, place_of_lem}
use Rattle.lists.proofs.SearchLaws.{any_false}
use Rattle.graph.specs.Edges.{edge_count, first_end, second_end, is_loop, far_end, edges_at, At}
use Rattle.graph.proofs.EdgeLaws.{far_first, far_second, edge_at, at_edge, edges_at_nodup}
use Rattle.graph.specs.Check.{Passed}
use Rattle.graph.proofs.CheckLaws.{passed_inside}
use Rattle.graph.specs.Stretch.{stretch, Table}
use Rattle.vizing.specs.MisraGries.{has_loop, has_double_edge}
use Rattle.vizing.specs.Simple.{SameEnds, Incident}
use Rattle.vizing.proofs.SimpleLaws.{simple_no_double, passed_simple, simple_graph}
use Rattle.simple_graph.specs.DoubleEdges.{far_at, Twice, Distinct, Tells, SeenReady}

-- ---- one node

module _ (ends edges : List ℕ) (v : ℕ) where
  -- After the first i edges: they have different far ends, and just these have v's stamp.
  pub record Seen (i : ℕ) (seen : List ℕ) : Type 0 where
    pub distinct : Distinct ends edges v i
    pub stamped : (a : ℕ) → a < i → get_or seen (far_at ends edges v a) 0 ≡ v + 1
    pub only : (w : ℕ) → get_or seen w 0 ≡ v + 1 → (a : ℕ) × (a < i) × (far_at ends edges v a ≡ w)
    pub low : (w : ℕ) → get_or seen w 0 ≤ v + 1

-- ---- the whole graph

-- When it is node v's turn: no node before it has two edges with the same far end, and no stamp is above v.
pub record Before (ends : List ℕ) (v : ℕ) (seen : List ℕ) : Type 0 where
  pub distinct : (u : ℕ) → u < v → Distinct ends (edges_at ends (edge_count ends) u) u (length (edges_at ends (edge_count ends) u))
  pub old : (w : ℕ) → get_or seen w 0 ≤ v
  pub size : length seen ≡ 512

-- A list without repeats has different numbers at different places.
nodup_places : (xs : List ℕ) → Nodup xs → (a b : ℕ) → a < b → b < length xs → get_or xs a 0 ≢ get_or xs b 0
nodup_places [] u a b h l e = absurd (not-suc-le-zero l)
nodup_places (x ∷ xs) u a zero h l e = absurd (not-suc-le-zero h)
nodup_places (x ∷ xs) u zero (suc b) h l e = u.0 (rw e (mem_get_or xs b 0 (omega arith)))
nodup_places (x ∷ xs) u (suc a) (suc b) h l e = nodup_places xs u.1 a b (omega arith) (omega arith) e

-- The far end of an edge is an end of it, whatever the node.
far_inside : (n : ℕ) (ends : List ℕ) → Passed n ends → (k v : ℕ) → k < edge_count ends → far_end ends k v < n
unfolding far_end
far_inside n ends p k v h =
    let r = passed_inside n ends p k h in
    by-test (eqb (first_end ends k) v) (λ t. rw t r.1) (λ t. rw t r.0)

-- A list that has all edges at v, in incidence order.
module _ (ends edges : List ℕ) (v : ℕ) (all : edges ≡ edges_at ends (edge_count ends) v) where
  listed_edge : (i : ℕ) → i < length edges → Incident ends (edge_count ends) (get_or edges i 0) v
  listed_edge i h = edge_at ends (edge_count ends) v (get_or edges i 0) (subst (Mem (get_or edges i 0)) all (mem_get_or edges i 0 h))

  -- Two places of the list hold different edges, so the same far end there is a double edge.
  double_edge : has_loop ends (edge_count ends) ≡ false → Twice ends edges v → true ≡ has_double_edge ends (edge_count ends)
  double_edge loop t =
      by-test (has_double_edge ends (edge_count ends))
      (λ d. sym d)
      (λ d.
      let b = t.listed in
      let a : t.earlier < length edges = omega (arith, t.order) in
      let e = (simple_graph ends (edge_count ends) (passed_simple ends (edge_count ends) loop d)).no_double _ _ v (listed_edge t.earlier a) (listed_edge t.later b) t.same in
      absurd (nodup_places edges (subst Nodup (sym all) (edges_at_nodup ends (edge_count ends) v)) t.earlier t.later t.order b e))

  -- Different far ends at all places: an edge at v is known by its far end.
  distinct_edges : Distinct ends edges v (length edges) → (i j : ℕ) → Incident ends (edge_count ends) i v → Incident ends (edge_count ends) j v → far_end ends i v ≡ far_end ends j v → i ≡ j
  distinct_edges d i j p q e =
      let a = place i p in
      let b = place j q in
      elim (dec_eq a.0 b.0) [
        | inl s ↦ sym a.2 ∙ ap (λ (x : ℕ). get_or edges x 0) s ∙ b.2
        | inr s ↦ absurd (elim (dec_lt a.0 b.0) [
          | yes h ↦ d a.0 b.0 h b.1 (rw (a.2, b.2) e)
          | no h ↦ d b.0 a.0 (omega arith) a.1 (rw (a.2, b.2) (sym e))
        ])
      ]
    where
      place : (k : ℕ) → Incident ends (edge_count ends) k v → (x : ℕ) × (x < length edges) × (get_or edges x 0 ≡ k)
      place k r = place_of_lem k edges 0 (subst (Mem k) (sym all) (at_edge ends (edge_count ends) v k r.0 r.1))

-- At the start `seen` has no stamp.
zero_at : (k w : ℕ) → get_or (replicate k 0) w 0 ≤ 0
zero_at zero w = omega arith
zero_at (suc k) zero = omega arith
zero_at (suc k) (suc w) = zero_at k w

pub no_node : (ends : List ℕ) → Before ends 0 (replicate 512 0)
no_node ends = record { distinct = λ u h. absurd (not-suc-le-zero h); old = zero_at 512; size = refl }

-- Node v's turn, with its edges as the table gives them.
module _ (n : ℕ) (ends starts entries : List ℕ) (v : ℕ) (table : Table ends n starts entries) (h : v < n) where
  abbrev edges : List ℕ
  edges = stretch starts entries v

  pub node_ready : (seen : List ℕ) → Passed n ends → Before ends v seen → SeenReady ends edges v seen
  node_ready seen p b = record {
    inside = λ i l. omega (arith, far_inside n ends p (get_or edges i 0) v (listed_edge ends edges v (table.row v h) i l).0, p.nodes, b.size);
    old = b.old;
  }

  pub double_found : (r : Bool) → has_loop ends (edge_count ends) ≡ false → Tells ends edges v r → r ≡ true → true ≡ has_double_edge ends (edge_count ends)
  double_found r loop t d = double_edge ends edges v (table.row v h) loop (t.twice d)

-- After the last node. Of two edges with the same ends both stand at the first end of one, with the same far end there.
pub no_double : (n : ℕ) (ends : List ℕ) (v : ℕ) (seen : List ℕ) → Passed n ends → has_loop ends (edge_count ends) ≡ false → Before ends v seen → n ≤ v → false ≡ has_double_edge ends (edge_count ends)
unfolding has_loop is_loop
no_double n ends v seen p loop b h = sym (simple_no_double ends m (record {
  no_loop = λ k l. eqb-false (first_end ends k) (second_end ends k) (any_false (is_loop ends) m loop k l);
  no_double = λ i j l l' same.
      let u = first_end ends i in
      let d = b.distinct u (omega (arith, (passed_inside n ends p i l).0)) in
      let s = other i j same in
      distinct_edges ends (edges_at ends m u) u refl d i j (l, inl refl) (l', s.0) (far_first ends i u refl ∙ s.1);
}))
  where
    m : ℕ
    m = edge_count ends

    other : (i j : ℕ) → SameEnds ends i j → At ends j (first_end ends i) × (second_end ends i ≡ far_end ends j (first_end ends i))
    other i j (inl (e, f)) = (inl (sym e), f ∙ sym (far_first ends j (first_end ends i) (sym e)))
    other i j (inr (e, f)) = (inr (sym e), f ∙ sym (far_second ends j (first_end ends i) (sym e)))
