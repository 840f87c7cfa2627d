-- Laws of the marks on colours, at a node and at an edge.
use Prim.Native.Nat.{ℕ, zero, suc, ◌+◌, ◌≤◌, ◌<◌, ◌*◌}
use mathlib.Core.Bool.{Bool, true, false, true≢false}
use mathlib.Core.List.{List, [], ◌∷◌, ◌++◌, map, append_assoc, append-nil}
use mathlib.Core.Logic.{inl, inr, ◌≢◌}
use mathlib.Core.Path.{◌≡◌, refl, sym, ap, subst, ◌∙◌, ap₂}
use native.Mathlib.Nat.{not-suc-le-zero}
use native.Mathlib.Numerals.{add-one}
use native.Mathlib.Omega.{arith}
use lib.ListN.{length, get_or, set, take, replicate, length-set, length-map, length-append, get_or-replicate, length-replicate}
use lib.Seq.{take-suc, take_all, get_or-set_same, get_or-set_other}
use Rattle.lists.proofs.Tests.{by-test, dec_eq}
use Rattle.lists.specs.Member.{Mem, elem}
use Rattle.lists.proofs.MemberLaws.{elem_true, elem_false, mem_append, mem_append_left, mem_append_right, mem_map, map_mem, cover_bound, below, mem_below, length_below, map_append}
use Rattle.graph.specs.Edges.{far_end, edges_at, edge_count, neighbors, first_end, second_end, At}
use Rattle.graph.proofs.NeighborLaws.{neighbors_far_ends, passed_neighbor, passed_degree}
use Rattle.graph.specs.Check.{Passed}
use Rattle.graph.specs.Color.{smallest_from, no_color}
use Rattle.graph.specs.Colored.{color_of, smallest_free_at}
use Rattle.graph.proofs.ColorLaws.{smaller_stands, smallest_none_has}
use Rattle.graph.specs.Stretch.{stretch, Table}
use Rattle.smallest_color.specs.Marks.{far_colors, Marked, FirstUnmarked}
use Rattle.graph.proofs.EdgeLaws.{edge_at, at_edge}
use Rattle.graph.proofs.CheckLaws.{passed_inside}
use Rattle.line_list.proofs.LineNeighborLaws.{line_neighbor_member}
use Rattle.greedy.specs.Call.{edge_neighbors}
use Rattle.greedy.proofs.TurnLaws.{edge_neighborhood, edge_neighbors_lem, sharing_neighbor}
use Rattle.smallest_color.specs.EdgeMarks.{colors_of}

pub marked_none : (n : ℕ) → Marked (replicate n false) []
marked_none n = record {
  marked = λ c h p. absurd p;
  unmarked = λ c h q. absurd (true≢false (sym q ∙ get_or-replicate n c false false (rw (length-replicate {A = Bool} n false) at h)));
}

marked_more : (marks : List Bool) (cs : List ℕ) (c : ℕ) → Marked marks cs → Marked (set marks c true) (cs ++ c ∷ [])
marked_more marks cs c m = record {
  marked = λ b h p.
      let h' : b < length marks = rw (length-set marks c true) at h in
      elim (dec_eq b c) [
        | inl e ↦ rw e (get_or-set_same marks c true false (omega arith))
        | inr e ↦ rw (get_or-set_other marks c b true false e) (elim (mem_append b cs (c ∷ []) p) [ inl q ↦ m.marked b h' q | inr q ↦ elim q [ inl r ↦ absurd (e r) | inr r ↦ absurd r ] ])
      ];
  unmarked = λ b h q.
      let h' : b < length marks = rw (length-set marks c true) at h in
      elim (dec_eq b c) [
        | inl e ↦ mem_append_right b cs (c ∷ []) (inl e)
        | inr e ↦ mem_append_left b cs (c ∷ []) (m.unmarked b h' (rw (get_or-set_other marks c b true false e) at q))
      ];
}

-- Marking the colours at the far ends of a node's edges, one edge after the other.
module _ (ends colors : List ℕ) (v : ℕ) (ks : List ℕ) (marks : List Bool) where
  pub far_marked_begin : Marked marks [] → Marked marks (far_colors ends colors v (take 0 ks))
  unfolding far_colors
  far_marked_begin m = m

  module _ (i : ℕ) (m : Marked marks (far_colors ends colors v (take i ks))) where
    pub far_marked_next : (w c : ℕ) (marks' : List Bool) → i < length ks → w ≡ far_end ends (get_or ks i 0) v → c ≡ color_of colors w → marks' ≡ set marks c true → Marked marks' (far_colors ends colors v (take (i + 1) ks))
    unfolding far_colors
    far_marked_next w c marks' h p q m' =
        let e : c ≡ color_of colors (far_end ends (get_or ks i 0) v) = q ∙ ap (color_of colors) p in
        let t = ap (far_colors ends colors v) (ap (λ (j : ℕ). take j ks) (add-one i) ∙ take-suc ks i 0 h) ∙ map_append (λ (k : ℕ). color_of colors (far_end ends k v)) (take i ks) (get_or ks i 0 ∷ []) in
        rw (m', e, t) (marked_more marks (far_colors ends colors v (take i ks)) (color_of colors (far_end ends (get_or ks i 0) v)) m)

    pub far_marked_end : {stretch : List ℕ} → ks ≡ stretch → length ks ≤ i → Marked marks (far_colors ends colors v stretch)
    far_marked_end e h = subst (λ (l : List ℕ). Marked marks (far_colors ends colors v l)) (take_all i ks h ∙ e) m

-- ---- what the first place without a mark is

smallest_from_lem : (fuel : ℕ) (cs : List ℕ) (c r : ℕ) → c ≤ r → r ≤ c + fuel → ((b : ℕ) → c ≤ b → b < r → Mem b cs) → (r < c + fuel → Mem r cs → ⊥) → r ≡ smallest_from fuel cs c
unfolding smallest_from
smallest_from_lem zero cs c r low high used free = omega arith
smallest_from_lem (suc fuel) cs c r low high used free = by-test (elem c cs)
    (λ t. elim (dec_eq r c) [
      | inl e ↦ absurd (free (omega arith) (subst (λ (x : ℕ). Mem x cs) (sym e) (elem_true c cs t)))
      | inr e ↦ rw (t, smallest_from) (smallest_from_lem fuel cs (suc c) r (omega arith) (omega arith) (λ b h k. used b (omega arith) k) (λ k. free (omega arith)))
    ])
    (λ t. elim (dec_eq r c) [
      | inl e ↦ rw (t, smallest_from) e
      | inr e ↦ absurd (elem_false c cs t (used c (omega arith) (omega arith)))
    ])

-- Where all colours below c are used and those used are fewer than c and the fuel, more fuel finds the same.
smallest_more : (fuel more : ℕ) (cs : List ℕ) (c : ℕ) → length cs < c + fuel → fuel ≤ more → ((b : ℕ) → b < c → Mem b cs) → smallest_from fuel cs c ≡ smallest_from more cs c
unfolding smallest_from
smallest_more zero more cs c few h used = let z : ⊥ = omega (arith, cover_bound c cs used) in absurd z
smallest_more (suc fuel) zero cs c few h used = let z : ⊥ = omega arith in absurd z
smallest_more (suc fuel) (suc more) cs c few h used = by-test (elem c cs)
    (λ t. rw (t, smallest_from) (smallest_more fuel more cs (suc c) (omega arith) (omega arith) (λ b k. elim (dec_eq b c) [ inl e ↦ rw e (elem_true c cs t) | inr e ↦ used b (omega arith) ])))
    (λ t. rw (t, smallest_from))

-- Marks for more colours than are used find what any more marks find.
smallest_enough : (few size : ℕ) (cs : List ℕ) (c : ℕ) → length cs < few → few ≤ size → c ≡ smallest_from few cs 0 → c ≡ smallest_from size cs 0
smallest_enough few size cs c l h e = e ∙ smallest_more few size cs 0 (omega arith) h (λ b k. absurd (not-suc-le-zero k))

-- As the code finds it: the first place without a mark is the smallest colour that is not used, of as many as there are marks.
pub first_unmarked_smallest : (marks : List Bool) (cs : List ℕ) (c : ℕ) → Marked marks cs → FirstUnmarked marks c → c ≡ smallest_from (length marks) cs 0
first_unmarked_smallest marks cs c m f =
    smallest_from_lem (length marks) cs 0 c (omega arith) (omega (arith, f.inside)) (λ b h k. m.unmarked b (omega (arith, f.inside)) (f.before b k)) (λ h p. true≢false (sym (m.marked c (omega arith) p) ∙ f.here (omega arith)))

pub smallest_of_marks : (marks : List Bool) (cs : List ℕ) (size c : ℕ) → Marked marks cs → length marks ≡ length (replicate size false) → FirstUnmarked marks c → c ≡ smallest_from size cs 0
smallest_of_marks marks cs size c m l f = rw (← length-replicate {A = Bool} size false, ← l) (first_unmarked_smallest marks cs c m f)

-- At a node: as many places are marked as there are marks.
pub smallest_found : (ends colors : List ℕ) (v : ℕ) (ks : List ℕ) (marks : List Bool) (size c : ℕ) → Marked marks (far_colors ends colors v ks) → length marks ≡ size → FirstUnmarked marks c → c ≡ smallest_from size (far_colors ends colors v ks) 0
smallest_found ends colors v ks marks size c m l f = rw (← l) (first_unmarked_smallest marks (far_colors ends colors v ks) c m f)

-- At a node with few edges few marks find the same.
pub node_few : (ends colors : List ℕ) (v : ℕ) (ks es : List ℕ) (c : ℕ) → es ≡ ks → length es < 64 → c ≡ smallest_from 64 (far_colors ends colors v ks) 0 → c ≡ smallest_from 512 (far_colors ends colors v ks) 0
unfolding far_colors
node_few ends colors v ks es c p h e = smallest_enough 64 512 (far_colors ends colors v ks) c (omega (arith, length-map ks (λ (k : ℕ). color_of colors (far_end ends k v)), ap length p)) (omega arith) e

-- ---- at a node of a graph that passed

far_colors_neighbors : (ends colors : List ℕ) (v : ℕ) (ks : List ℕ) → far_colors ends colors v ks ≡ map (color_of colors) (map (λ (j : ℕ). far_end ends j v) ks)
unfolding far_colors
far_colors_neighbors ends colors v [] = refl
far_colors_neighbors ends colors v (k ∷ ks) = ap (λ (l : List ℕ). color_of colors (far_end ends k v) ∷ l) (far_colors_neighbors ends colors v ks)

module _ (n : ℕ) (ends colors : List ℕ) (v : ℕ) (p : Passed n ends) where
  abbrev nb : List ℕ
  nb = neighbors ends (edge_count ends) v

  few : length nb < no_color
  few = omega (arith, passed_degree n ends p v)

  -- Each smaller colour stands on one of the n nodes, so there are at most n.
  smallest_bound : smallest_free_at colors nb ≤ n
  smallest_bound = omega (arith, cover_bound (smallest_free_at colors nb) (map (color_of colors) (below n)) on_nodes, length-map (below n) (color_of colors), length_below n)
    where
      on_nodes : (c : ℕ) → c < smallest_free_at colors nb → Mem c (map (color_of colors) (below n))
      on_nodes c h =
          let r = smaller_stands colors nb c h in
          subst (λ (x : ℕ). Mem x (map (color_of colors) (below n))) r.2 (mem_map (color_of colors) r.0 (below n) (mem_below n r.0 (passed_neighbor n ends p v r.0 r.1)))

  smallest_node : smallest_free_at colors nb ≡ smallest_from 512 (map (color_of colors) nb) 0
  smallest_node = smallest_from_lem 512 (map (color_of colors) nb) 0 (smallest_free_at colors nb) (omega arith) (omega (arith, smallest_bound, p.nodes))
      (λ c l h. let r = smaller_stands colors nb c h in subst (λ (x : ℕ). Mem x (map (color_of colors) nb)) r.2 (mem_map (color_of colors) r.0 nb r.1))
      (λ h q. let r = map_mem (color_of colors) (smallest_free_at colors nb) nb q in smallest_none_has colors nb few r.0 r.1 r.2)

-- What `smallest_color` finds is the smallest free colour.
pub smallest_color_node : (n : ℕ) (ends starts entries colors : List ℕ) (v r : ℕ) → Passed n ends → Table ends n starts entries → v < n
    → r ≡ smallest_from 512 (far_colors ends colors v (stretch starts entries v)) 0 → r ≡ smallest_free_at colors (neighbors ends (edge_count ends) v)
smallest_color_node n ends starts entries colors v r p table h e =
    let far = ap (far_colors ends colors v) (table.row v h) ∙ (far_colors_neighbors ends colors v (edges_at ends (edge_count ends) v) ∙ ap (map (color_of colors)) (sym (neighbors_far_ends ends (edge_count ends) v))) in
    e ∙ (ap (λ (cs : List ℕ). smallest_from 512 cs 0) far ∙ sym (smallest_node n ends colors v p))

-- ---- marking the colours of edges, one after the other

module _ (colors ks : List ℕ) (marks : List Bool) (cs : List ℕ) where
  pub edges_marked_begin : Marked marks cs → Marked marks (cs ++ colors_of colors (take 0 ks))
  unfolding colors_of
  edges_marked_begin m = rw (append-nil cs) m

  module _ (i : ℕ) (m : Marked marks (cs ++ colors_of colors (take i ks))) where
    pub edges_marked_next : (c : ℕ) (marks' : List Bool) → i < length ks → c ≡ color_of colors (get_or ks i 0) → marks' ≡ set marks c true → Marked marks' (cs ++ colors_of colors (take (i + 1) ks))
    unfolding colors_of
    edges_marked_next c marks' h q r =
        let t = ap (map (color_of colors)) (ap (λ (j : ℕ). take j ks) (add-one i) ∙ take-suc ks i 0 h) ∙ map_append (color_of colors) (take i ks) (get_or ks i 0 ∷ []) in
        let u = ap (λ (l : List ℕ). cs ++ l) t ∙ sym (append_assoc cs (map (color_of colors) (take i ks)) (color_of colors (get_or ks i 0) ∷ [])) in
        rw (r, q, u) (marked_more marks (cs ++ map (color_of colors) (take i ks)) (color_of colors (get_or ks i 0)) m)

    pub edges_marked_end : length ks ≤ i → Marked marks (cs ++ colors_of colors ks)
    edges_marked_end b = subst (λ (l : List ℕ). Marked marks (cs ++ colors_of colors l)) (take_all i ks b) m

-- For few edges fewer marks find the same.
pub edges_few : (colors es fs : List ℕ) (c few : ℕ) → length es + length fs < few → few ≤ 4096 → c ≡ smallest_from few (colors_of colors es ++ colors_of colors fs) 0 → c ≡ smallest_from 4096 (colors_of colors es ++ colors_of colors fs) 0
unfolding colors_of
edges_few colors es fs c few h l e =
    let count = length-append (colors_of colors es) (colors_of colors fs) in
    smallest_enough few 4096 (colors_of colors es ++ colors_of colors fs) c (omega (arith, count, length-map es (color_of colors), length-map fs (color_of colors))) l e

-- As the code finds it, in the stretches of both ends.
pub smallest_at_ends : (ends starts entries colors : List ℕ) (k a b : ℕ) (es fs : List ℕ) (c : ℕ) → a ≡ get_or ends (2 * k) 0 → b ≡ get_or ends (2 * k + 1) 0 → es ≡ stretch starts entries a → fs ≡ stretch starts entries b
    → c ≡ smallest_from 4096 (colors_of colors es ++ colors_of colors fs) 0
    → c ≡ smallest_from 4096 (colors_of colors (stretch starts entries (first_end ends k)) ++ colors_of colors (stretch starts entries (second_end ends k))) 0
unfolding first_end second_end
smallest_at_ends ends starts entries colors k a b es fs c u v p q e = rw (← u, ← v, ← p, ← q) e

-- The same of marks.
pub smallest_edge_found : (ends starts entries colors : List ℕ) (k a b : ℕ) (es fs : List ℕ) (marks : List Bool) (size c : ℕ) → a ≡ get_or ends (2 * k) 0 → b ≡ get_or ends (2 * k + 1) 0 → es ≡ stretch starts entries a → fs ≡ stretch starts entries b
    → Marked marks (colors_of colors es ++ colors_of colors fs) → length marks ≡ size → FirstUnmarked marks c
    → c ≡ smallest_from size (colors_of colors (stretch starts entries (first_end ends k)) ++ colors_of colors (stretch starts entries (second_end ends k))) 0
unfolding first_end second_end
smallest_edge_found ends starts entries colors k a b es fs marks size c u v p q m l f = rw (← u, ← v, ← p, ← q, ← l) (first_unmarked_smallest marks (colors_of colors es ++ colors_of colors fs) c m f)

-- ---- at an edge of a graph that passed

module _ (n : ℕ) (ends colors : List ℕ) (k : ℕ) (p : Passed n ends) (h : k < edge_count ends) where
  abbrev m : ℕ
  m = edge_count ends

  abbrev smallest : ℕ
  smallest = smallest_free_at colors (edge_neighbors n ends k)

  -- The colours of the edges at both ends.
  abbrev both : List ℕ
  both = colors_of colors (edges_at ends m (first_end ends k)) ++ colors_of colors (edges_at ends m (second_end ends k))

  few_sharing : length (edge_neighbors n ends k) < no_color
  few_sharing = (edge_neighborhood n ends p).few k h

  -- Each smaller colour stands on an edge below m, so there are at most m.
  smallest_few : smallest ≤ m
  smallest_few = omega (arith, cover_bound smallest (map (color_of colors) (below m)) on_edges, length-map (below m) (color_of colors), length_below m)
    where
      on_edges : (c : ℕ) → c < smallest → Mem c (map (color_of colors) (below m))
      on_edges c b =
          let r = smaller_stands colors (edge_neighbors n ends k) c b in
          subst (λ (x : ℕ). Mem x (map (color_of colors) (below m))) r.2 (mem_map (color_of colors) r.0 (below m) (mem_below m r.0 ((edge_neighborhood n ends p).inside k r.0 h r.1)))

  -- An edge at an end of k is an edge at its first or at its second.
  on_both : (j v : ℕ) → j < m → At ends k v → At ends j v → Mem (color_of colors j) both
  unfolding colors_of
  on_both j v b (inl e) q = mem_append_left (color_of colors j) (colors_of colors (edges_at ends m (first_end ends k))) (colors_of colors (edges_at ends m (second_end ends k)))
      (mem_map (color_of colors) j (edges_at ends m (first_end ends k)) (at_edge ends m (first_end ends k) j b (rw (← e) at q)))
  on_both j v b (inr e) q = mem_append_right (color_of colors j) (colors_of colors (edges_at ends m (first_end ends k))) (colors_of colors (edges_at ends m (second_end ends k)))
      (mem_map (color_of colors) j (edges_at ends m (second_end ends k)) (at_edge ends m (second_end ends k) j b (rw (← e) at q)))

  both_on : (c : ℕ) → Mem c both → (j : ℕ) × (v : ℕ) × (j < m) × At ends k v × At ends j v × (color_of colors j ≡ c)
  unfolding colors_of
  both_on c q = elim (mem_append c (colors_of colors (edges_at ends m (first_end ends k))) (colors_of colors (edges_at ends m (second_end ends k))) q) [
    | inl r ↦ let s = map_mem (color_of colors) c (edges_at ends m (first_end ends k)) r in let e = edge_at ends m (first_end ends k) s.0 s.1 in (s.0, first_end ends k, e.0, inl refl, e.1, s.2)
    | inr r ↦ let s = map_mem (color_of colors) c (edges_at ends m (second_end ends k)) r in let e = edge_at ends m (second_end ends k) s.0 s.1 in (s.0, second_end ends k, e.0, inr refl, e.1, s.2)
  ]

  smallest_both : color_of colors k ≡ no_color → smallest ≡ smallest_from 4096 both 0
  smallest_both none = smallest_from_lem 4096 both 0 smallest (omega arith) (omega (arith, smallest_few, p.edges))
      (λ c l b.
      let r = smaller_stands colors (edge_neighbors n ends k) c b in
      let s = line_neighbor_member ends m k r.0 (subst (Mem r.0) (edge_neighbors_lem n ends p k h) r.1) in
      subst (λ (x : ℕ). Mem x both) r.2 (on_both r.0 s.2.0 s.0 s.2.1 s.2.2))
      (λ b q.
      let r = both_on smallest q in
      let d : k ≢ r.0 = λ e. omega (arith, none, ap (color_of colors) e, r.5, smallest_few, p.edges) in
      smallest_none_has colors (edge_neighbors n ends k) few_sharing r.0 (sharing_neighbor n ends p k r.0 r.1 h r.2 d r.3 r.4) r.5)

-- What `smallest_edge_color` finds at an edge without a colour is its smallest free one.
pub smallest_color_edge : (n : ℕ) (ends starts entries colors : List ℕ) (k r : ℕ) → Passed n ends → Table ends n starts entries → k < edge_count ends → color_of colors k ≡ no_color
    → r ≡ smallest_from 4096 (colors_of colors (stretch starts entries (first_end ends k)) ++ colors_of colors (stretch starts entries (second_end ends k))) 0
    → r ≡ smallest_free_at colors (edge_neighbors n ends k)
smallest_color_edge n ends starts entries colors k r p table h none e =
    let i = passed_inside n ends p k h in
    let t = ap₂ (λ (a b : List ℕ). smallest_from 4096 (colors_of colors a ++ colors_of colors b) 0) (table.row (first_end ends k) i.0) (table.row (second_end ends k) i.1) in
    e ∙ (t ∙ sym (smallest_both n ends colors k p h none))
