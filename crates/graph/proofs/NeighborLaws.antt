-- Laws of neighbours: which nodes they are, that each is the other's neighbour equally often, and how many there are.
use Prim.Native.Nat.{ℕ, zero, suc, ◌+◌, ◌≤◌, ◌<◌}
use mathlib.Core.List.{List, [], map}
use mathlib.Core.Logic.{inl, inr, ◌≢◌}
use mathlib.Core.Path.{◌≡◌, refl, sym, ap, subst, ◌∙◌}
use native.Mathlib.Omega.{arith}
use lib.ListN.{length, length-map}
use Rattle.lists.proofs.Tests.{dec_eq}
use Rattle.lists.specs.Member.{Mem}
use Rattle.lists.proofs.MemberLaws.{mem_map, map_mem, nodup_bound, map_append, count_append, count_here, count_there, count_none}
use Rattle.lists.specs.Different.{count}
use Rattle.graph.specs.Edges.{edge_count, first_end, second_end, far_end, first_edges, second_edges, edges_at, degree, neighbors, At}
use Rattle.graph.proofs.EdgeLaws.{far_first, far_second, far_at_lem, far_far, first_more, first_same, first_none, second_more, second_same, second_none, second_at_other, loop_not_second, edges_at_groups, edge_at, at_edge, edges_at_nodup}
use Rattle.graph.specs.Check.{Passed}
use Rattle.graph.proofs.CheckLaws.{passed_inside}
use Rattle.graph.proofs.TableLaws.{Inside}

pub neighbors_far_ends : (ends : List ℕ) (m v : ℕ) → neighbors ends m v ≡ map (λ (j : ℕ). far_end ends j v) (edges_at ends m v)
unfolding neighbors
neighbors_far_ends ends m v = refl

pub length_neighbors : (ends : List ℕ) (m v : ℕ) → length (neighbors ends m v) ≡ degree ends m v
unfolding neighbors degree
length_neighbors ends m v = length-map (edges_at ends m v) (λ (j : ℕ). far_end ends j v)

-- No node has more edges than there are.
pub degree_bound : (ends : List ℕ) (m v : ℕ) → degree ends m v ≤ m
unfolding degree
degree_bound ends m v = nodup_bound m (edges_at ends m v) (edges_at_nodup ends m v) (λ k p. (edge_at ends m v k p).0)

-- A neighbour is the far end of an edge, and the other way round.
pub neighbor_edge : (ends : List ℕ) (m v w : ℕ) → Mem w (neighbors ends m v) → (k : ℕ) × (k < m) × At ends k v × (far_end ends k v ≡ w)
unfolding neighbors
neighbor_edge ends m v w p =
    let r = map_mem (λ (j : ℕ). far_end ends j v) w (edges_at ends m v) p in
    let e = edge_at ends m v r.0 r.1 in
    (r.0, e.0, e.1, r.2)

pub edge_neighbor : (ends : List ℕ) (m v k : ℕ) → k < m → At ends k v → Mem (far_end ends k v) (neighbors ends m v)
unfolding neighbors
edge_neighbor ends m v k h p = mem_map (λ (j : ℕ). far_end ends j v) k (edges_at ends m v) (at_edge ends m v k h p)

pub neighbor_inside : (ends : List ℕ) (m n v w : ℕ) → Inside ends m n → Mem w (neighbors ends m v) → w < n
neighbor_inside ends m n v w inside p =
    let r = neighbor_edge ends m v w p in
    let i = inside r.0 r.1 in
    elim (far_at_lem ends r.0 v r.2) [
      | inl q ↦ omega (arith, i.0, q, r.3)
      | inr q ↦ omega (arith, i.1, q, r.3)
    ]

pub neighbor_symmetric : (ends : List ℕ) (m v w : ℕ) → Mem w (neighbors ends m v) → Mem v (neighbors ends m w)
neighbor_symmetric ends m v w p =
    let r = neighbor_edge ends m v w p in
    let q = edge_neighbor ends m w r.0 r.1 (subst (λ (x : ℕ). At ends r.0 x) r.3 (far_at_lem ends r.0 v r.2)) in
    let e = ap (far_end ends r.0) (sym r.3) ∙ far_far ends r.0 v r.2 in
    subst (λ (x : ℕ). Mem x (neighbors ends m w)) e q

-- ---- how often

module _ (ends : List ℕ) where
  -- How often w is the far end of these edges, from v.
  abbrev times : List ℕ → ℕ → ℕ → ℕ
  times ks v w = count w (map (λ (j : ℕ). far_end ends j v) ks)

  times_groups : (m v w : ℕ) → count w (neighbors ends m v) ≡ times (first_edges ends m v) v w + times (second_edges ends m v) v w
  unfolding neighbors
  times_groups m v w = ap (λ (ks : List ℕ). times ks v w) (edges_at_groups ends m v) ∙ (ap (count w) (map_append (λ (j : ℕ). far_end ends j v) (first_edges ends m v) (second_edges ends m v)) ∙ count_append w (map (λ (j : ℕ). far_end ends j v) (first_edges ends m v)) (map (λ (j : ℕ). far_end ends j v) (second_edges ends m v)))

  -- The first ends at v go to w as often as the second ends at w go to v.
  times_across : (m v w : ℕ) → v ≢ w → times (first_edges ends m v) v w ≡ times (second_edges ends m w) w v
  times_across zero v w n = rw (first_none ends v, second_none ends w) (count_none w [] (λ p. p) ∙ sym (count_none v [] (λ p. p)))
  times_across (suc m) v w n =
      let i = times_across m v w n in
      elim (dec_eq (first_end ends m) v) [
        | inl a ↦ elim (dec_eq (second_end ends m) w) [
          | inl b ↦
              let x = far_first ends m v a ∙ b in
              let y = far_second ends m w b ∙ a in
              rw (first_more ends m v a, second_more ends m w b (λ e. n (sym a ∙ e)), x, y, count_here w, count_here v) (ap suc i)
          | inr b ↦
              let x = far_first ends m v a in
              rw (first_more ends m v a, second_same ends m w (second_at_other ends m w b)) (count_there w (far_end ends m v) _ (λ e. b (sym x ∙ sym e)) ∙ i)
        ]
        | inr a ↦ elim (dec_eq (second_end ends m) w) [
          | inl b ↦ elim (dec_eq (first_end ends m) w) [
            | inl c ↦ rw (first_same ends m v a, second_same ends m w (loop_not_second ends m w (c ∙ sym b))) i
            | inr c ↦
                let y = far_second ends m w b in
                rw (first_same ends m v a, second_more ends m w b c) (i ∙ sym (count_there v (far_end ends m w) _ (λ e. a (sym y ∙ sym e))))
          ]
          | inr b ↦ rw (first_same ends m v a, second_same ends m w (second_at_other ends m w b)) i
        ]
      ]

  -- Each of two nodes is the other's neighbour equally often.
  pub neighbor_times : (m v w : ℕ) → v ≢ w → count w (neighbors ends m v) ≡ count v (neighbors ends m w)
  neighbor_times m v w n = omega (arith, times_groups m v w, times_groups m w v, times_across m v w n, times_across m w v (λ e. n (sym e)))

-- ---- a graph that passed

pub passed_neighbor : (n : ℕ) (ends : List ℕ) → Passed n ends → (v w : ℕ) → Mem w (neighbors ends (edge_count ends) v) → w < n
passed_neighbor n ends p v w = neighbor_inside ends (edge_count ends) n v w (passed_inside n ends p)

pub passed_degree : (n : ℕ) (ends : List ℕ) → Passed n ends → (v : ℕ) → length (neighbors ends (edge_count ends) v) ≤ 4096
passed_degree n ends p v = omega (arith, length_neighbors ends (edge_count ends) v, degree_bound ends (edge_count ends) v, p.edges)
