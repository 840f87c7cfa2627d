-- Laws of the two counts, and that the marks tell on whose neighbours a colour stands.
use Prim.Native.Nat.{ℕ, suc, ◌+◌, ◌≤◌, ◌<◌}
use mathlib.Core.Path.{◌≡◌, sym, ap, subst, ◌∙◌, refl}
use mathlib.Core.Logic.{◌⊎◌, inl, inr, ◌≢◌}
use mathlib.Core.List.{List, [], ◌∷◌, map}
use native.Mathlib.Omega.{arith}
use lib.ListN.{length, set, length-map, get_or}
use borrow.Author.Tests.{eq-eqb}
use mathlib.Core.Bool.{Bool, true, ◌||◌, cond}
use native.Mathlib.Decide.{dec_lt}
use Rattle.lists.proofs.Tests.{by-test, dec_eq, true_or}
use Rattle.lists.specs.Member.{Mem, elem}
use Rattle.lists.proofs.MemberLaws.{dec_mem, mem_map, map_mem, pigeonhole, distinct_nodup, distinct_member, different_same, different_new, count_here, count_there, count_none, elem_false, mem_get_or}
use Rattle.lists.specs.Different.{different, distinct, count}
use Rattle.graph.specs.Color.{no_color}
use Rattle.graph.specs.Colored.{color_of, is_colored, colored_among}
use Rattle.graph.proofs.ColorLaws.{color_set_same, color_set_other, is_colored_true, is_colored_false, colored_true, uncolored_false, colored_edge, edge_colored, colored_edges_length, color_read, color_outside}
use Rattle.greedy.specs.Saturation.{uncolored_among}
use Rattle.graph.specs.Edges.{edge_count}
use Rattle.graph.proofs.EdgeLaws.{at_edge, edge_at}
use Rattle.graph.specs.Stretch.{stretch}
use Rattle.items.specs.declared.Kind.{Kind}
use Rattle.items.specs.declared.table.Items.{Items}
use Rattle.items.specs.Items.{first_node, second_node, across_of, neighbors_of, Sized, Tabled}
use Rattle.items.proofs.TableLaws.{tabled_as}
use Rattle.saturation.specs.Counts.{neighbors_in}
use Rattle.items.proofs.ItemsLaws.{items_few, across_inside, first_inside, second_inside, NodeOf, neighbor_leading, leading_neighbor}
use Rattle.color_marks.proofs.MarksLaws.{stands_item, item_stands, stored_here, bare_mark, used_yes, used_no}
use Rattle.color_marks.specs.Marks.{stored, around, stands, mark_of, used_marks}

-- ---- how often

pub mem_count : (k : ℕ) (xs : List ℕ) → Mem k xs → 0 < count k xs
unfolding count
mem_count k [] x' = elim x' [ ]
mem_count k (x ∷ xs) (inl p) = simp (eq-eqb k x p) (omega arith)
mem_count k (x ∷ xs) (inr p) = omega (arith, mem_count k xs p)

pub count_mem : (k : ℕ) (xs : List ℕ) → 0 < count k xs → Mem k xs
count_mem k xs h = elim (dec_mem k xs) [ inl p ↦ p | inr p ↦ absurd (omega (arith, count_none k xs p)) ]

-- ---- the colours of these items

-- The colours that stand on these items.
unfoldable pub colors_among : List ℕ → List ℕ → List ℕ
colors_among colors us = map (color_of colors) (colored_among colors us)

color_among : (colors us : List ℕ) (c u : ℕ) → Mem u us → color_of colors u ≡ c → c ≢ no_color → Mem c (colors_among colors us)
unfolding colors_among
color_among colors us c u p e n = subst (λ (x : ℕ). Mem x (map (color_of colors) (colored_among colors us))) e (mem_map (color_of colors) u (colored_among colors us) (edge_colored colors us u p (λ z. n (sym e ∙ z))))

among_color : (colors us : List ℕ) (c : ℕ) → Mem c (colors_among colors us) → (u : ℕ) × Mem u us × (color_of colors u ≡ c) × (c ≢ no_color)
unfolding colors_among
among_color colors us c p =
    let r = map_mem (color_of colors) c (colored_among colors us) p in
    let q = colored_edge colors us r.0 r.1 in
    (r.0, q.0, r.2, λ z. q.1 (r.2 ∙ z))

different_length : (xs : List ℕ) → different xs ≤ length xs
unfolding different
different_length xs = pigeonhole (distinct xs) xs (distinct_nodup xs) (distinct_member xs)

-- No more different colours than items.
pub different_few : (colors us : List ℕ) → different (colors_among colors us) ≤ length us
unfolding colors_among
different_few colors us = omega (arith, different_length (map (color_of colors) (colored_among colors us)), length-map (colored_among colors us) (color_of colors), colored_edges_length colors us)

-- ---- item v, which has no colour, takes c

module _ (colors : List ℕ) (v c : ℕ) (inside : v < length colors) (bare : color_of colors v ≡ no_color) (real : c ≢ no_color) where
  here : color_of (set colors v c) v ≢ no_color
  here z = real (sym (color_set_same colors v c inside) ∙ z)

  pub uncolored_falls : (us : List ℕ) → uncolored_among (set colors v c) us + count v us ≡ uncolored_among colors us
  unfolding uncolored_among
  uncolored_falls [] = omega (arith, count_none v [] (λ p. p))
  uncolored_falls (u ∷ us) =
      let i = uncolored_falls us in
      elim (dec_eq u v) [
        | inl p ↦ rw (p, colored_true (set colors v c) v here, uncolored_false colors v bare, count_here v us) (omega (arith, i))
        | inr p ↦
            let s : is_colored (set colors v c) u ≡ is_colored colors u = same_test u p in
            rw (s, count_there v u us (λ e. p (sym e))) (by-test (is_colored colors u) (λ t. rw t (omega (arith, i))) (λ t. rw t (omega (arith, i))))
      ]
    where
      same_test : (u : ℕ) → u ≢ v → is_colored (set colors v c) u ≡ is_colored colors u
      same_test u p = by-test (is_colored colors u)
          (λ t. colored_true (set colors v c) u (λ z. is_colored_true colors u t (sym (color_set_other colors v c u p) ∙ z)) ∙ sym t)
          (λ t. uncolored_false (set colors v c) u (color_set_other colors v c u p ∙ is_colored_false colors u t) ∙ sym t)

  colors_after : (us : List ℕ) (x : ℕ) → Mem x (colors_among (set colors v c) us) → ((x ≡ c) × Mem v us) ⊎ Mem x (colors_among colors us)
  colors_after us x p =
      let r = among_color (set colors v c) us x p in
      elim (dec_eq r.0 v) [
        | inl e ↦ inl (sym r.2 ∙ (ap (color_of (set colors v c)) e ∙ color_set_same colors v c inside), subst (λ (u : ℕ). Mem u us) e r.1)
        | inr e ↦ inr (color_among colors us x r.0 r.1 (sym (color_set_other colors v c r.0 e) ∙ r.2) r.3)
      ]

  colors_stay : (us : List ℕ) (x : ℕ) → Mem x (colors_among colors us) → Mem x (colors_among (set colors v c) us)
  colors_stay us x p =
      let r = among_color colors us x p in
      let e : r.0 ≢ v = λ q. r.3 (sym r.2 ∙ (ap (color_of colors) q ∙ bare)) in
      color_among (set colors v c) us x r.0 r.1 (color_set_other colors v c r.0 e ∙ r.2) r.3

  -- As many different colours as before where v is not among the items, or c stands on one of them already; else one more.
  pub different_stays : (us : List ℕ) → (Mem v us → Mem c (colors_among colors us)) → different (colors_among (set colors v c) us) ≡ different (colors_among colors us)
  different_stays us old = different_same (colors_among (set colors v c) us) (colors_among colors us)
      (λ x p. elim (colors_after us x p) [ inl (e, q) ↦ subst (λ (y : ℕ). Mem y (colors_among colors us)) (sym e) (old q) | inr q ↦ q ])
      (colors_stay us)

  pub different_grows : (us : List ℕ) → Mem v us → (Mem c (colors_among colors us) → ⊥) → different (colors_among (set colors v c) us) ≡ suc (different (colors_among colors us))
  different_grows us m new = different_same (colors_among (set colors v c) us) (c ∷ colors_among colors us)
      (λ x p. elim (colors_after us x p) [ inl (e, q) ↦ inl e | inr q ↦ inr q ])
      (λ x p. elim p [
        | inl e ↦ subst (λ (y : ℕ). Mem y (colors_among (set colors v c) us)) (sym e) (color_among (set colors v c) us c v m (color_set_same colors v c inside) real)
        | inr q ↦ colors_stay us x q
      ]) ∙ different_new c (colors_among colors us) new

-- ---- the marks tell on whose neighbours a colour stands

-- An item among us that has no colour is marked if the colour stands on its neighbours.
pub record Known (us : List ℕ) (nb : ℕ → List ℕ) (colors : List ℕ) (c : ℕ) (marks : List ℕ) : Type 0 where
  pub old : (u : ℕ) → Mem u us → u < length colors → color_of colors u ≡ no_color → get_or marks u 0 ≢ 0 → Mem c (colors_among colors (nb u))
  pub marked : (u : ℕ) → Mem u us → u < length colors → color_of colors u ≡ no_color → Mem c (colors_among colors (nb u)) → get_or marks u 0 ≢ 0

module _ (kind : Kind) (n : ℕ) (ends starts entries colors : List ℕ) (c : ℕ) (tabled : Tabled kind n ends starts entries (length colors)) (real : c ≡ no_color → ⊥) where
  abbrev sized : Sized kind n ends (length colors)
  sized = tabled.sized

  node_inside : (u w : ℕ) → u < length colors → NodeOf kind ends u w → w < n
  node_inside u w h (inl p) = rw (← p) (first_inside kind n ends (length colors) sized u h)
  node_inside u w h (inr p) = rw (← p) (second_inside kind n ends (length colors) sized u h)

  module _ (u : ℕ) (inside : u < length colors) (bare : color_of colors u ≡ no_color) where
    -- Whether the colour stands at a node.
    abbrev f : ℕ → Bool
    f = stands kind ends starts entries colors c

    -- Its mark.
    abbrev mark : ℕ
    mark = mark_of kind ends starts entries colors c u

    mark_is : mark ≡ cond (f (first_node kind ends u) || f (second_node kind ends u)) 1 0
    mark_is = bare_mark kind ends starts entries colors c u inside (color_read colors u 0 inside ∙ bare)

    mark_stands : mark ≢ 0 → (w : ℕ) × NodeOf kind ends u w × (f w ≡ true)
    mark_stands n =
        let a = first_node kind ends u in
        let b = second_node kind ends u in
        by-test (f a) (λ t. (a, inl refl, t)) (λ s. by-test (f b) (λ t. (b, inr refl, t)) (λ t. absurd (n (mark_is ∙ rw (s, t)))))

    stands_mark : (w : ℕ) → NodeOf kind ends u w → f w ≡ true → mark ≢ 0
    stands_mark w (inl p) t z = let e = sym mark_is ∙ z in omega (arith, rw (p, t) at e)
    stands_mark w (inr p) t z = let e = sym mark_is ∙ z in omega (arith, rw (p, true_or (f (first_node kind ends u)) (f w) t) at e)

  -- The colour stands at a node of item u, which has none: a neighbour of u has it; and the other way round.
  stands_among : (u w : ℕ) → u < length colors → color_of colors u ≡ no_color → NodeOf kind ends u w → stands kind ends starts entries colors c w ≡ true → Mem c (colors_among colors (neighbors_of kind n ends u))
  unfolding stands
  stands_among u w h bare of_item t =
      let r = stands_item kind ends colors c w (stretch starts entries w) t in
      let x = across_of kind ends r.0 w in
      let e = edge_at ends (edge_count ends) w r.0 (subst (λ (l : List ℕ). Mem r.0 l) (tabled.table.row w (node_inside u w h of_item)) r.1) in
      let other : x ≢ u = λ p. real (sym r.3 ∙ (ap (color_of colors) p ∙ bare)) in
      color_among colors (neighbors_of kind n ends u) c x
      (leading_neighbor kind n ends (length colors) sized u x h other (record { edge = r.0; node = w; inside = e.0; of_item = of_item; at = e.1; to = refl }))
      r.3 real

  among_stands : (u : ℕ) → u < length colors → Mem c (colors_among colors (neighbors_of kind n ends u)) → (w : ℕ) × NodeOf kind ends u w × (stands kind ends starts entries colors c w ≡ true)
  unfolding stands
  among_stands u h p =
      let r = among_color colors (neighbors_of kind n ends u) c p in
      let l = neighbor_leading kind n ends (length colors) sized u r.0 h r.1 in
      let w = l.node in (
        w,
        l.of_item,
        item_stands kind ends colors c w (stretch starts entries w) l.edge
            (rw (tabled.table.row w (node_inside u w h l.of_item)) (at_edge ends (edge_count ends) w l.edge l.inside l.at))
            (across_inside kind n ends (length colors) sized l.edge w l.inside l.at)
            (ap (color_of colors) l.to ∙ r.2),
      )

  pub known : (us marks₀ marks : List ℕ) → 4096 ≤ length marks₀ → marks ≡ stored (mark_of kind ends starts entries colors c) us marks₀ → Known us (neighbors_of kind n ends) colors c marks
  known us marks₀ marks room stores =
      let mark-here : (u : ℕ) → Mem u us → u < length colors → get_or marks u 0 ≡ mark_of kind ends starts entries colors c u = λ u i h.
      ap (λ (l : List ℕ). get_or l u 0) stores ∙ stored_here (mark_of kind ends starts entries colors c) us marks₀ u i (omega (arith, items_few kind n ends (length colors) sized)) in
      record {
        old = λ u i h bare n. let r = mark_stands u h bare (rw (mark-here u i h) at n) in stands_among u r.0 h bare r.1 r.2;
        marked = λ u i h bare p. let r = among_stands u h p in rw (mark-here u i h) (stands_mark u h bare r.0 r.1 r.2);
      }

  -- The marks where those are set only if some item has the colour: none has a colour that no item has.
  pub used_known : (v : ℕ) (marks₀ marks : List ℕ) → ((u : ℕ) → get_or marks₀ u 0 ≡ 0) → 4096 ≤ length marks₀ → marks ≡ used_marks kind ends starts entries colors c v marks₀
      → Known (around kind ends starts entries v) (neighbors_of kind n ends) colors c marks
  used_known v marks₀ marks zeros room set = by-test (elem c colors) (λ t. known (around kind ends starts entries v) marks₀ marks room (set ∙ used_yes kind ends starts entries colors c v marks₀ t)) (λ t. record {
    old = λ u i h bare n. absurd (n (ap (λ (l : List ℕ). get_or l u 0) (set ∙ used_no kind ends starts entries colors c v marks₀ t) ∙ zeros u));
    marked = λ u i h bare p. let r = among_color colors (neighbors_of kind n ends u) c p in absurd (elem_false c colors t (color_member r.0 r.2));
  })
    where
      color_member : (x : ℕ) → color_of colors x ≡ c → Mem c colors
      color_member x e = elim (dec_lt x (length colors)) [
        | yes b ↦ subst (λ (y : ℕ). Mem y colors) (color_read colors x 0 b ∙ e) (mem_get_or colors x 0 b)
        | no b ↦ absurd (real (sym e ∙ color_outside colors x (omega arith)))
      ]

-- The same of the items of a graph with its table.
module _ (items : Items) (colors : List ℕ) (c : ℕ) (size : length colors ≡ items.count) (real : c ≡ no_color → ⊥) where
  pub known_items : (us marks₀ marks : List ℕ) → 4096 ≤ length marks₀ → marks ≡ stored (mark_of items.kind items.table.ends.now items.table.starts.now items.table.entries.now colors c) us marks₀ → Known us (neighbors_in items) colors c marks
  known_items = known items.kind items.table.nodes items.table.ends.now items.table.starts.now items.table.entries.now colors c (tabled_as items (length colors) size) real

  pub used_known_items : (v : ℕ) (marks₀ marks : List ℕ) → ((u : ℕ) → get_or marks₀ u 0 ≡ 0) → 4096 ≤ length marks₀ → marks ≡ used_marks items.kind items.table.ends.now items.table.starts.now items.table.entries.now colors c v marks₀
      → Known (around items.kind items.table.ends.now items.table.starts.now items.table.entries.now v) (neighbors_in items) colors c marks
  used_known_items = used_known items.kind items.table.nodes items.table.ends.now items.table.starts.now items.table.entries.now colors c (tabled_as items (length colors) size) real
