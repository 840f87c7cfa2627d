-- Laws of colouring the items: their degrees, their order, and one turn after the other.
use Prim.Native.Nat.{ℕ, suc, ◌+◌, ◌≤◌, ◌<◌}
use mathlib.Core.List.{List, ◌∷◌}
use mathlib.Core.Logic.{inl, inr}
use mathlib.Core.Path.{◌≡◌, refl, sym, ap, ap₂, subst, ◌∙◌}
use native.Mathlib.Numerals.{add-one}
use native.Mathlib.Omega.{arith}
use lib.ListN.{length, get_or, set, replicate, drop, drop_of_length-le, length-set, length-replicate}
use lib.Seq.{drop-cons, get_or-set_same, get_or-set_other}
use Rattle.lists.proofs.Tests.{dec_eq}
use Rattle.lists.specs.Member.{Mem}
use Rattle.lists.specs.Parts.{copied_over}
use Rattle.lists.proofs.PartsLaws.{copied_same}
use Rattle.graph.specs.Edges.{edge_count, first_end, second_end}
use Rattle.graph.specs.Color.{no_color}
use Rattle.graph.specs.Colored.{color_of, smallest_free_at}
use Rattle.graph.proofs.ColorLaws.{color_set_other}
use Rattle.graph.specs.Check.{Passed}
use Rattle.graph.proofs.NeighborLaws.{passed_degree, degree_bound}
use Rattle.line_list.proofs.LineNeighborLaws.{line_neighbor_count, line_neighbor_count_loop}
use Rattle.greedy.specs.Turn.{uncolored}
use Rattle.greedy.proofs.TurnLaws.{uncolored_member, edge_neighbors_lem, in_order_next}
use Rattle.greedy.specs.Degree.{color_in_order, degree_order, degree_colors}
use Rattle.items.specs.declared.Kind.{Kind}
use Rattle.items.specs.declared.Kind.TheVariants.{Nodes, Edges}
use Rattle.items.specs.Items.{items_of, neighbors_of, free_color, Tabled}
use Rattle.items.proofs.ItemsLaws.{free_smallest}
use Rattle.degree.specs.Order.{falling_buckets, degree_in}
use Rattle.degree.proofs.OrderLaws.{falling_same, degree_among, degree_among_lem, order_buckets, order_member, order_nodup}
use Rattle.degree.proofs.PlaceLaws.{zeros_at}
use Rattle.degree.specs.Color.{OrderRoom, Waiting}

-- ---- degrees

-- The items below v have their degrees, and v gets its own.
pub degrees_next : (nb : ℕ → List ℕ) (degrees : List ℕ) (v d : ℕ) → ((u : ℕ) → u < v → get_or degrees u 0 ≡ length (nb u)) → v < length degrees → d ≡ length (nb v)
    → (u : ℕ) → u < v + 1 → get_or (set degrees v d) u 0 ≡ length (nb u)
degrees_next nb degrees v d known h e u b = elim (dec_eq u v) [
  | inl q ↦ rw q (get_or-set_same degrees v d 0 h ∙ e)
  | inr o ↦ get_or-set_other degrees v u d 0 o ∙ known u (omega (arith, o))
]

-- A node has at most 4,096 neighbours.
pub nodes_room : (top : ℕ) → 4097 ≤ top → (n : ℕ) (ends : List ℕ) → Passed n ends → OrderRoom Nodes n ends (replicate 512 0) (replicate top 0) (replicate 512 0)
unfolding neighbors_of
nodes_room top enough n ends passed = record {
  degrees_room = rw (length-replicate {A = ℕ} 512 0) passed.nodes;
  order_room = rw (length-replicate {A = ℕ} 512 0) passed.nodes;
  counts_room = λ v h. rw (length-replicate {A = ℕ} top 0) (omega (arith, passed_degree n ends passed v));
  zeros = zeros_at top;
}

-- At each end stand at most m edges, the edge itself among them.
edge_few : (n : ℕ) (ends : List ℕ) → Passed n ends → (k : ℕ) → k < edge_count ends → length (neighbors_of Edges n ends k) < 8191
unfolding neighbors_of
edge_few n ends passed k h =
    let m = edge_count ends in
    let first = degree_bound ends m (first_end ends k) in
    rw (edge_neighbors_lem n ends passed k h) (elim (dec_eq (first_end ends k) (second_end ends k)) [
      | inl e ↦ omega (arith, line_neighbor_count_loop ends m k h e, first, passed.edges)
      | inr d ↦ omega (arith, line_neighbor_count ends m k h d, first, degree_bound ends m (second_end ends k), passed.edges)
    ])

-- An edge has at most 4,095 neighbours at each end.
pub edges_room : (top : ℕ) → 8191 ≤ top → (n : ℕ) (ends : List ℕ) → Passed n ends → OrderRoom Edges n ends (replicate 4096 0) (replicate top 0) (replicate 4096 0)
edges_room top enough n ends passed = record {
  degrees_room = rw (length-replicate {A = ℕ} 4096 0) passed.edges;
  order_room = rw (length-replicate {A = ℕ} 4096 0) passed.edges;
  counts_room = λ k h. rw (length-replicate {A = ℕ} top 0) (omega (arith, edge_few n ends passed k h));
  zeros = zeros_at top;
}

-- ---- the order of items whose degrees are known

module _ (nb : ℕ → List ℕ) (n top : ℕ) (presets degrees : List ℕ) (known : (v : ℕ) → v < n → get_or degrees v 0 ≡ length (nb v)) (few : (v : ℕ) → v < n → length (nb v) < top) (l : length presets ≡ n) where
  items_order : (order : List ℕ) → order ≡ falling_buckets (degree_in degrees) top (uncolored presets (length presets)) → order ≡ degree_order nb n presets
  unfolding degree_in degree_among
  items_order order e =
      e
      ∙ (ap (λ (i : ℕ). falling_buckets (degree_in degrees) top (uncolored presets i)) l
      ∙ (falling_same (degree_in degrees) (degree_among nb) top (uncolored presets n) (λ v p. known v (uncolored_member presets n v p).0)
      ∙ sym (order_buckets nb n presets top (λ v h. omega (arith, degree_among_lem nb v, few v h)))))

-- The same of lists with room, once the degrees are noted.
module _ (kind : Kind) (n : ℕ) (ends presets degrees₀ degrees counts order : List ℕ) (passed : Passed n ends) (room : OrderRoom kind n ends degrees₀ counts order) (l : length presets ≡ items_of kind n ends)
    (known : (v : ℕ) → v < length presets → get_or degrees v 0 ≡ length (neighbors_of kind n ends v)) where
  item_known : (v : ℕ) → v < items_of kind n ends → get_or degrees v 0 ≡ length (neighbors_of kind n ends v)
  item_known v h = known v (omega arith)

  pub order_found : (found : List ℕ) → found ≡ falling_buckets (degree_in degrees) (length counts) (uncolored presets (length presets)) → found ≡ degree_order (neighbors_of kind n ends) (items_of kind n ends) presets
  order_found = items_order (neighbors_of kind n ends) (items_of kind n ends) (length counts) presets degrees item_known room.counts_room l

-- ---- the items whose turn is still to come

-- At first these are all of the order.
pub order_waits : (nb : ℕ → List ℕ) (n : ℕ) (presets lent order copied : List ℕ) → length presets ≡ n → length lent ≡ n → order ≡ degree_order nb n presets → copied ≡ copied_over presets lent → Waiting order copied
order_waits nb n presets lent order copied a b e f =
    let g : copied ≡ presets = f ∙ copied_same presets lent (b ∙ sym a) in
    rw (e, g) (record {
      once = order_nodup nb n presets;
      inside = λ v p. omega (arith, (order_member nb n presets v p).0);
      free = λ v p. (order_member nb n presets v p).1;
    })

module _ (order colors : List ℕ) (i : ℕ) (waiting : Waiting (drop i order) colors) (h : i < length order) where
  split : Waiting (get_or order i 0 ∷ drop (suc i) order) colors
  split = subst (λ (l : List ℕ). Waiting l colors) (drop-cons order i 0 h) waiting

  pub waiting_inside : get_or order i 0 < length colors
  waiting_inside = split.inside (get_or order i 0) (inl refl)

  waiting_free : color_of colors (get_or order i 0) ≡ no_color
  waiting_free = split.free (get_or order i 0) (inl refl)

  -- One that takes a colour is the only one that changes.
  pub waiting_next : (c : ℕ) → Waiting (drop (i + 1) order) (set colors (get_or order i 0) c)
  waiting_next c = rw (add-one i) (record {
    once = split.once.1;
    inside = λ v p. rw (length-set colors (get_or order i 0) c) (split.inside v (inr p));
    free = λ v p. color_set_other colors (get_or order i 0) c v (λ e. split.once.0 (subst (λ (u : ℕ). Mem u (drop (suc i) order)) e p)) ∙ split.free v (inr p);
  })

-- ---- turns

module _ (nb : ℕ → List ℕ) where
  turn_next : (order colors : List ℕ) (i c : ℕ) {r : List ℕ} → color_in_order nb (drop i order) colors ≡ r → i < length order → c ≡ smallest_free_at colors (nb (get_or order i 0)) → color_in_order nb (drop (i + 1) order) (set colors (get_or order i 0) c) ≡ r
  turn_next order colors i c e h p = rw (add-one i, p) (sym (in_order_next nb (get_or order i 0) (drop (suc i) order) colors) ∙ (rw (drop-cons order i 0 h) at e))

  pub turns_done : (order colors : List ℕ) (i : ℕ) {r : List ℕ} → color_in_order nb (drop i order) colors ≡ r → length order ≤ i → colors ≡ r
  unfolding color_in_order
  turns_done order colors i e h = rw (drop_of_length-le order h) at e

-- The next item of the order takes its smallest colour.
pub item_turn : (kind : Kind) (n : ℕ) (ends starts entries order colors : List ℕ) (i c : ℕ) {r : List ℕ} → Tabled kind n ends starts entries (length colors) → Waiting (drop i order) colors
    → color_in_order (neighbors_of kind n ends) (drop i order) colors ≡ r → i < length order → c ≡ free_color kind ends starts entries colors (get_or order i 0)
    → color_in_order (neighbors_of kind n ends) (drop (i + 1) order) (set colors (get_or order i 0) c) ≡ r
item_turn kind n ends starts entries order colors i c tabled waiting e h p =
    turn_next (neighbors_of kind n ends) order colors i c e h
    (free_smallest kind n ends starts entries colors tabled (get_or order i 0) c (waiting_inside order colors i waiting h) (waiting_free order colors i waiting h) p)

-- ---- the whole

-- From the presets on, in the order.
pub degree_colored : (nb : ℕ → List ℕ) (n : ℕ) (presets lent order copied colors : List ℕ) → length presets ≡ n → length lent ≡ n → order ≡ degree_order nb n presets → copied ≡ copied_over presets lent → colors ≡ color_in_order nb order copied → colors ≡ degree_colors nb n presets
unfolding degree_colors
degree_colored nb n presets lent order copied colors a b e f g = g ∙ ap₂ (λ (o l : List ℕ). color_in_order nb o l) e (f ∙ copied_same presets lent (b ∙ sym a))
