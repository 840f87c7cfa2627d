-- Laws of a turn: the items without a colour, what one turn keeps, and so what a greedy colouring is.
use Prim.Native.Nat.{ℕ, zero, suc, ◌≤◌, ◌<◌}
use mathlib.Core.Bool.{not}
use mathlib.Core.List.{List, [], ◌∷◌, ◌++◌, map}
use mathlib.Core.Logic.{inl, inr, ◌≢◌, ◌⊎◌}
use mathlib.Core.Path.{◌≡◌, sym, ap, ◌∙◌, refl, subst}
use native.Mathlib.Nat.{not-suc-le-zero}
use native.Mathlib.Omega.{arith}
use lib.ListN.{length, set, length-set, length-map}
use lib.Dec.{eqb}
use borrow.Author.Tests.{ne_eqb}
use Rattle.lists.proofs.Tests.{by-test, dec_eq}
use Rattle.lists.specs.Member.{Mem, Nodup}
use Rattle.lists.proofs.MemberLaws.{mem_append, mem_append_left, mem_append_right, nodup_append, nodup_bound, pigeonhole, mem_map, cover_bound, member_distinct}
use Rattle.graph.specs.Edges.{keep, edge_count, neighbors, At}
use Rattle.graph.specs.Color.{no_color}
use Rattle.graph.specs.Colored.{color_of, is_colored, smallest_free_at}
use Rattle.graph.proofs.ColorLaws.{is_colored_false, uncolored_false, color_set_same, color_set_other, smallest_free_bound, smallest_free_color, smallest_none_has, smaller_stands}
use Rattle.greedy.specs.Turn.{uncolored, color_item}
use Rattle.greedy.specs.Greedy.{Neighborhood, Greedy}
use Rattle.greedy.specs.Degree.{color_in_order}
use Rattle.lists.specs.Different.{distinct, different}
use Rattle.graph.specs.Check.{Passed}
use Rattle.graph.proofs.CheckLaws.{passed_inside}
use Rattle.line_list.specs.LineList.{line_pairs}
use Rattle.line_list.specs.LineNeighbors.{line_neighbors}
use Rattle.line_list.proofs.LineNeighborLaws.{line_neighbors_lem, pair_ends_inside, member_line_neighbor, line_neighbor_bound}
use Rattle.graph.proofs.NeighborLaws.{neighbor_inside, neighbor_symmetric, neighbor_times, passed_neighbor, passed_degree}
use Rattle.greedy.specs.Call.{edge_neighbors}

-- ---- laws of the items without a colour

-- One item more, with or without a colour.
pub last_uncolored : (colors : List ℕ) (n : ℕ) → color_of colors n ≡ no_color → uncolored colors (suc n) ≡ uncolored colors n ++ n ∷ []
unfolding uncolored
last_uncolored colors n e = rw (uncolored_false colors n e)

pub last_colored : (colors : List ℕ) (n : ℕ) → color_of colors n ≢ no_color → uncolored colors (suc n) ≡ uncolored colors n ++ []
unfolding uncolored
last_colored colors n d = by-test (is_colored colors n) (λ t. rw t) (λ t. absurd (d (is_colored_false colors n t)))

-- They are the items below n that have none,
pub uncolored_member : (colors : List ℕ) (n v : ℕ) → Mem v (uncolored colors n) → (v < n) × (color_of colors v ≡ no_color)
unfolding uncolored
uncolored_member colors zero v p = elim p [ ]
uncolored_member colors (suc n) v p = elim (mem_append v (uncolored colors n) (keep (not (is_colored colors n)) n []) p) [
  | inl q ↦ let r = uncolored_member colors n v q in (omega (arith, r.0), r.1)
  | inr q ↦ by-test (is_colored colors n)
      (λ t. absurd (rw t at q))
      (λ t. elim (rw t at q) [ inl e ↦ (omega arith, ap (color_of colors) e ∙ is_colored_false colors n t) | inr z ↦ absurd z ])
]

pub member_uncolored : (colors : List ℕ) (n v : ℕ) → v < n → color_of colors v ≡ no_color → Mem v (uncolored colors n)
unfolding uncolored
member_uncolored colors zero v h e = absurd (not-suc-le-zero h)
member_uncolored colors (suc n) v h e = elim (dec_eq v n) [
  | inl p ↦ mem_append_right v (uncolored colors n) (keep (not (is_colored colors n)) n []) (rw (uncolored_false colors n (ap (color_of colors) (sym p) ∙ e)) (inl p))
  | inr p ↦ mem_append_left v (uncolored colors n) (keep (not (is_colored colors n)) n []) (member_uncolored colors n v (omega arith) e)
]

-- each once.
pub uncolored_nodup : (colors : List ℕ) (n : ℕ) → Nodup (uncolored colors n)
unfolding uncolored
uncolored_nodup colors zero = tt
uncolored_nodup colors (suc n) = nodup_append (uncolored colors n) (keep (not (is_colored colors n)) n []) (uncolored_nodup colors n)
    (by-test (is_colored colors n) (λ t. rw t tt) (λ t. rw t (λ z. z, tt)))
    (λ k p q. by-test (is_colored colors n) (λ t. rw t at q) (λ t. elim (rw t at q) [ inl e ↦ omega (arith, (uncolored_member colors n k p).0) | inr z ↦ z ]))

-- There are at most n.
pub uncolored_few : (colors : List ℕ) (n : ℕ) → length (uncolored colors n) ≤ n
uncolored_few colors n = nodup_bound n (uncolored colors n) (uncolored_nodup colors n) (λ k p. (uncolored_member colors n k p).0)

-- One that takes a colour is one of them less.
pub uncolored_less : (colors : List ℕ) (n v c : ℕ) → n ≤ length colors → Mem v (uncolored colors n) → c ≢ no_color → length (uncolored (set colors v c) n) < length (uncolored colors n)
uncolored_less colors n v c l p d =
    let h = uncolored_member colors n v p in
    let here = color_set_same colors v c (omega (arith, h.0)) in
    pigeonhole (v ∷ uncolored (set colors v c) n) (uncolored colors n)
    (λ q. d (sym here ∙ (uncolored_member (set colors v c) n v q).1), uncolored_nodup (set colors v c) n)
    (λ k q. elim q [
      | inl e ↦ rw e p
      | inr r ↦
          let s = uncolored_member (set colors v c) n k r in
          elim (dec_eq k v) [ inl e ↦ rw e p | inr e ↦ member_uncolored colors n k s.0 (sym (color_set_other colors v c k e) ∙ s.1) ]
    ])

-- ---- laws of colouring turn by turn: what holds of the colours so far

-- Those of these items that are not v: its other neighbours, for its own loop makes an item a neighbour of itself.
unfoldable pub others : ℕ → List ℕ → List ℕ
others v [] = []
others v (w ∷ ws) = keep (not (eqb w v)) w (others v ws)

-- What holds of the colours while some items still have none.
pub record Partial (nb : ℕ → List ℕ) (n : ℕ) (presets colors : List ℕ) : Type 0 where
  pub size : length colors ≡ n
  pub kept : (v : ℕ) → color_of presets v ≢ no_color → color_of colors v ≡ color_of presets v
  pub low : (v : ℕ) → v < n → color_of presets v ≡ no_color → color_of colors v ≤ no_color
  pub apart : (v w : ℕ) → v < n → Mem w (nb v) → w ≢ v → (color_of presets v ≡ no_color) ⊎ (color_of presets w ≡ no_color) → color_of colors v ≢ no_color → color_of colors v ≢ color_of colors w
  pub supported : (v : ℕ) → v < n → color_of presets v ≡ no_color → color_of colors v ≢ no_color → (c : ℕ) → c < color_of colors v → (w : ℕ) × Mem w (nb v) × (w ≢ v) × (color_of colors w ≡ c)

-- The presets alone.
pub partial_presets : (nb : ℕ → List ℕ) (n : ℕ) (presets : List ℕ) → length presets ≡ n → Partial nb n presets presets
partial_presets nb n presets l = record {
  size = l;
  kept = λ v p. refl;
  low = λ v h p. omega (arith, p);
  apart = λ v w h q d free here e. elim free [ inl p ↦ here p | inr p ↦ here (e ∙ p) ];
  supported = λ v h p here c b. absurd (here p);
}

-- Once every item has a colour.
pub partial_greedy : (nb : ℕ → List ℕ) (n : ℕ) (presets colors : List ℕ) → Partial nb n presets colors → ((v : ℕ) → v < n → color_of colors v ≢ no_color) → Greedy nb n presets colors
partial_greedy nb n presets colors p all = record {
  size = p.size;
  colored = all;
  kept = λ v h d. p.kept v d;
  apart = λ v w h q d free. p.apart v w h q d free (all v h);
  supported = λ v h e. p.supported v h e (all v h);
}

-- What an item takes, for every file that need not open the definition.
pub color_item_lem : (nb : ℕ → List ℕ) (colors : List ℕ) (v : ℕ) → color_item nb colors v ≡ set colors v (smallest_free_at colors (nb v))
unfolding color_item
color_item_lem nb colors v = refl

pub in_order_next : (nb : ℕ → List ℕ) (v : ℕ) (vs colors : List ℕ) → color_in_order nb (v ∷ vs) colors ≡ color_in_order nb vs (set colors v (smallest_free_at colors (nb v)))
unfolding color_in_order color_item
in_order_next nb v vs colors = refl

module _ (nb : ℕ → List ℕ) (n : ℕ) (hood : Neighborhood nb n) where
  module _ (colors : List ℕ) (size : length colors ≡ n) (v : ℕ) (inside : v < n) where
    abbrev chosen : ℕ
    chosen = smallest_free_at colors (nb v)

    pub turn_color : chosen ≢ no_color
    turn_color = smallest_free_color colors (nb v) (hood.few v inside)

    pub turn_here : color_of (color_item nb colors v) v ≡ chosen
    unfolding color_item
    turn_here = color_set_same colors v chosen (omega arith)

    pub turn_other : (u : ℕ) → u ≢ v → color_of (color_item nb colors v) u ≡ color_of colors u
    unfolding color_item
    turn_other u d = color_set_other colors v chosen u d

    pub turn_size : length (color_item nb colors v) ≡ n
    unfolding color_item
    turn_size = length-set colors v chosen ∙ size

  -- A turn of an item without a colour.
  pub partial_turn : (presets colors : List ℕ) (v : ℕ) → v < n → color_of colors v ≡ no_color → Partial nb n presets colors → Partial nb n presets (color_item nb colors v)
  partial_turn presets colors v h none p = record {
    size = turn_size colors p.size v h;
    kept = λ u d. elim (dec_eq u v) [
      | inl e ↦ absurd (d (sym (p.kept u d) ∙ (ap (color_of colors) e ∙ none)))
      | inr e ↦ other u e ∙ p.kept u d
    ];
    low = λ u k e. elim (dec_eq u v) [
      | inl q ↦ rw q (omega (arith, here, smallest_free_bound colors (nb v), hood.few v h))
      | inr q ↦ rw (other u q) (p.low u k e)
    ];
    apart = apart;
    supported = supported;
  }
    where
      c : ℕ
      c = smallest_free_at colors (nb v)

      here : color_of (color_item nb colors v) v ≡ smallest_free_at colors (nb v)
      here = turn_here colors p.size v h

      other : (u : ℕ) → u ≢ v → color_of (color_item nb colors v) u ≡ color_of colors u
      other = turn_other colors p.size v h

      free : (w : ℕ) → Mem w (nb v) → color_of colors w ≢ smallest_free_at colors (nb v)
      free = smallest_none_has colors (nb v) (hood.few v h)

      apart : (u w : ℕ) → u < n → Mem w (nb u) → w ≢ u → (color_of presets u ≡ no_color) ⊎ (color_of presets w ≡ no_color) → color_of (color_item nb colors v) u ≢ no_color → color_of (color_item nb colors v) u ≢ color_of (color_item nb colors v) w
      apart u w k q d f a e = elim (dec_eq u v) [
        | inl x ↦ free w (rw x at q) (sym (other w (λ y. d (y ∙ sym x))) ∙ (sym e ∙ (ap (color_of (color_item nb colors v)) x ∙ here)))
        | inr x ↦ elim (dec_eq w v) [
          | inl y ↦ free u (rw y at (hood.symmetric u w k q)) (sym (other u x) ∙ (e ∙ (ap (color_of (color_item nb colors v)) y ∙ here)))
          | inr y ↦ p.apart u w k q d f (λ z. a (other u x ∙ z)) (sym (other u x) ∙ (e ∙ other w y))
        ]
      ]

      supported : (u : ℕ) → u < n → color_of presets u ≡ no_color → color_of (color_item nb colors v) u ≢ no_color → (b : ℕ) → b < color_of (color_item nb colors v) u → (w : ℕ) × Mem w (nb u) × (w ≢ u) × (color_of (color_item nb colors v) w ≡ b)
      supported u k e a b less = elim (dec_eq u v) [
        | inl x ↦
            let less' : b < smallest_free_at colors (nb v) = omega (arith, less, ap (color_of (color_item nb colors v)) x, here) in
            let r = smaller_stands colors (nb v) b less' in
            let d : r.0 ≢ v = λ y. omega (arith, r.2, ap (color_of colors) y, none, smallest_free_bound colors (nb v), hood.few v h) in
            (r.0, subst (λ (y : ℕ). Mem r.0 (nb y)) (sym x) r.1, λ y. d (y ∙ x), other r.0 d ∙ r.2)
        | inr x ↦
            let r = p.supported u k e (λ z. a (other u x ∙ z)) b (rw (other u x) at less) in
            let low = p.low u k e in
            let d : r.0 ≢ v = λ y. omega (arith, r.3, ap (color_of colors) y, none, less, other u x, low) in
            (r.0, r.1, r.2, other r.0 d ∙ r.3)
      ]

  -- ---- one after the other

  -- Items outside the order keep what they have.
  in_order_other : (order : List ℕ) (colors : List ℕ) → length colors ≡ n → ((v : ℕ) → Mem v order → v < n) → (u : ℕ) → (Mem u order → ⊥) → color_of (color_in_order nb order colors) u ≡ color_of colors u
  unfolding color_in_order
  in_order_other [] colors l inside u d = refl
  in_order_other (v ∷ order) colors l inside u d =
      in_order_other order (color_item nb colors v) (turn_size colors l v (inside v (inl refl))) (λ w q. inside w (inr q)) u (λ q. d (inr q))
      ∙ turn_other colors l v (inside v (inl refl)) u (λ e. d (inl e))

  -- In an order without repeats of items without colours, all take one, and nothing else changes.
  in_order_partial : (presets order colors : List ℕ) → Partial nb n presets colors → Nodup order → ((v : ℕ) → Mem v order → (v < n) × (color_of colors v ≡ no_color))
      → Partial nb n presets (color_in_order nb order colors) × ((v : ℕ) → Mem v order → color_of (color_in_order nb order colors) v ≢ no_color)
  unfolding color_in_order
  in_order_partial presets [] colors p u waiting = (p, λ v q. absurd q)
  in_order_partial presets (v ∷ order) colors p u waiting =
      let w = waiting v (inl refl) in
      let later = in_order_partial presets order (color_item nb colors v) (partial_turn presets colors v w.0 w.1 p) u.1
      (λ x q. ((waiting x (inr q)).0, turn_other colors p.size v w.0 x (λ e. u.0 (rw e at q)) ∙ (waiting x (inr q)).1)) in
      let mine = in_order_other order (color_item nb colors v) (turn_size colors p.size v w.0) (λ x q. (waiting x (inr q)).0) v u.0 ∙ turn_here colors p.size v w.0 in
      (later.0, λ x q. elim q [ inl e ↦ rw e (λ z. turn_color colors p.size v w.0 (sym mine ∙ z)) | inr r ↦ later.1 x r ])

  -- So an order of all items without a preset colours greedily.
  pub in_order_greedy : (presets order : List ℕ) → length presets ≡ n → Nodup order → ((v : ℕ) → Mem v order → (v < n) × (color_of presets v ≡ no_color)) → ((v : ℕ) → v < n → color_of presets v ≡ no_color → Mem v order)
      → Greedy nb n presets (color_in_order nb order presets)
  in_order_greedy presets order l u waiting all =
      let r = in_order_partial presets order presets (partial_presets nb n presets l) u waiting in
      partial_greedy nb n presets (color_in_order nb order presets) r.0 (λ v h. elim (dec_eq (color_of presets v) no_color) [
        | inl e ↦ r.1 v (all v h e)
        | inr d ↦ λ z. d (sym (r.0.kept v d) ∙ z)
      ])

-- ---- the neighbours of a graph's nodes, and how great an item's colour can be

pub node_neighborhood : (n : ℕ) (ends : List ℕ) → Passed n ends → Neighborhood (neighbors ends (edge_count ends)) n
node_neighborhood n ends p = record {
  items = omega (arith, p.nodes);
  inside = λ v w h q. passed_neighbor n ends p v w q;
  symmetric = λ v w h q. neighbor_symmetric ends (edge_count ends) v w q;
  times = λ v w h k d. neighbor_times ends (edge_count ends) v w d;
  few = λ v h. omega (arith, passed_degree n ends p v);
}

-- The neighbours of its edges: those that share an end.
pub edge_neighborhood : (n : ℕ) (ends : List ℕ) → Passed n ends → Neighborhood (edge_neighbors n ends) (edge_count ends)
unfolding edge_neighbors
edge_neighborhood n ends p =
    let m = edge_count ends in
    let pairs = line_pairs ends m n in
    record {
      items = omega (arith, p.edges);
      inside = λ v w h q. neighbor_inside pairs (edge_count pairs) m v w (pair_ends_inside ends m n) q;
      symmetric = λ v w h q. neighbor_symmetric pairs (edge_count pairs) v w q;
      times = λ v w h k d. neighbor_times pairs (edge_count pairs) v w d;
      few = λ v h. rw (line_neighbors_lem ends m n v (passed_inside n ends p) h) (omega (arith, line_neighbor_bound ends m v h, p.edges));
    }

pub edge_neighbors_lem : (n : ℕ) (ends : List ℕ) → Passed n ends → (k : ℕ) → k < edge_count ends → edge_neighbors n ends k ≡ line_neighbors ends (edge_count ends) k
unfolding edge_neighbors
edge_neighbors_lem n ends p k h = line_neighbors_lem ends (edge_count ends) n k (passed_inside n ends p) h

pub sharing_neighbor : (n : ℕ) (ends : List ℕ) → Passed n ends → (j k v : ℕ) → j < edge_count ends → k < edge_count ends → j ≢ k → At ends j v → At ends k v → Mem k (edge_neighbors n ends j)
sharing_neighbor n ends passed j k v h g d p q = rw (edge_neighbors_lem n ends passed j h) (member_line_neighbor ends (edge_count ends) j k v h g (λ e. d (sym e)) p q)

other_member : (v w : ℕ) (ws : List ℕ) → Mem w ws → w ≢ v → Mem w (others v ws)
unfolding others
other_member v w [] x'' d = elim x'' [ ]
other_member v w (x ∷ ws) (inl e) d = rw (ne_eqb x v (λ z. d (rw e z))) (inl e)
other_member v w (x ∷ ws) (inr p) d = by-test (eqb x v) (λ t. rw t (other_member v w ws p d)) (λ t. rw t (inr (other_member v w ws p d)))

-- "The smallest" means: the colour of an item without a preset is at most the number of its different other neighbours.
pub greedy_bound : (nb : ℕ → List ℕ) (n : ℕ) (presets colors : List ℕ) → Greedy nb n presets colors → (v : ℕ) → v < n → color_of presets v ≡ no_color → color_of colors v ≤ different (others v (nb v))
unfolding different
greedy_bound nb n presets colors g v h e =
    let ws = distinct (others v (nb v)) in
    omega (
      arith,
      length-map ws (color_of colors),
      cover_bound (color_of colors v) (map (color_of colors) ws) (λ c b.
          let r = g.supported v h e c b in
          subst (λ (x : ℕ). Mem x (map (color_of colors) ws)) r.3 (mem_map (color_of colors) r.0 ws (member_distinct (others v (nb v)) r.0 (other_member v r.0 (nb v) r.1 r.2)))),
    )
