-- From an empty working list and table, for an admitted list: all edges take their stored colours exactly where these are properly stored, and the
-- working list and the table are then those of the stored colours.
use Prim.Native.Nat.{ℕ, zero, suc, ◌+◌, ◌-◌, ◌≤◌, ◌<◌}
use mathlib.Core.Path.{◌≡◌, refl, sym, ap, subst, ◌∙◌}
use mathlib.Core.Logic.{inl, inr}
use mathlib.Core.List.{List, ◌++◌}
use mathlib.Core.Bool.{Bool, true, false, true≢false, not, ◌&&◌}
use native.Mathlib.Omega.{arith}
use native.Mathlib.Numerals.{add-one}
use lib.ListN.{length, get_or, set, take, drop, replicate, length-replicate}
use lib.Seq.{length-take-le, take-length}
use lib.Dec.{ltb}
use borrow.Author.Tests.{le-ltb, ltb-false, not-true}
use Rattle.lists.proofs.Tests.{by-test, dec_eq, and_true}
use Rattle.lists.proofs.PartsLaws.{copied_next}
use Rattle.graph.specs.Edges.{edge_count, first_end, second_end, edges_at, degree, At}
use Rattle.graph.specs.Stretch.{Table}
use Rattle.graph.specs.Color.{no_color}
use Rattle.graph.specs.Colored.{color_of}
use Rattle.graph.proofs.ColorLaws.{color_take, color_read}
use Rattle.graph.proofs.EdgeLaws.{edge_at, at_edge}
use Rattle.vizing.specs.Demand3.{max_degree, Admitted}
use Rattle.vizing.specs.MisraGries.{is_free}
use Rattle.vizing.specs.AddEdge.{stored_list, ProperlyStored}
use Rattle.vizing.proofs.DefinitionLaws.{is_free_true, is_free_false}
use Rattle.vizing.proofs.FirstEdges.{colored_before}
use Rattle.vizing.proofs.AddEdgeLaws.{stored_color, stored_uncolored}
use Rattle.edge_table.specs.EdgeTable.{no_edge, is_empty}
use Rattle.repaint.specs.Repaint.{State, state, colored, TableOf}
use Rattle.repaint.proofs.RepaintLaws.{max_degree_below, admitted_table, says_free, color_keeps}
use Rattle.stored_colors.specs.Stored.{longest_stretch, may_take, Stored, stored_from, color_stored}
use Rattle.stored_colors.proofs.StoredLaws.{stored_start, stored_stop, stored_next, stored_end}

-- ---- D

longest_below : (ends : List ℕ) (n : ℕ) (starts entries : List ℕ) → Table ends n starts entries → (v : ℕ) → v ≤ n → longest_stretch starts entries v ≡ max_degree ends (edge_count ends) v
unfolding longest_stretch max_degree degree
longest_below ends n starts entries t zero h = refl
longest_below ends n starts entries t (suc v) h = rw (t.row v h, longest_below ends n starts entries t v (omega arith))

-- The longest stretch of a right table is the greatest degree.
pub longest_degree : (ends : List ℕ) (n : ℕ) (starts entries : List ℕ) → Table ends n starts entries → longest_stretch starts entries n ≡ max_degree ends (edge_count ends) n
longest_degree ends n starts entries t = longest_below ends n starts entries t n (omega arith)

-- ---- what the tests say where the table is right

module _ (ends : List ℕ) (m : ℕ) (l T : List ℕ) (L : TableOf ends m l T) (k c limit : ℕ) (low : limit < no_color) where
  says : c ≤ limit → (v : ℕ) → is_empty T v c ≡ is_free l (edges_at ends m v) c
  says h v = says_free ends m l T L v c (λ z. omega arith)

  may_take_true : may_take ends T k c limit ≡ true → (c ≤ limit) × ((v : ℕ) → At ends k v → is_free l (edges_at ends m v) c ≡ true)
  unfolding may_take
  may_take_true e =
      let r = and_true (not (ltb limit c)) (is_empty T (first_end ends k) c && is_empty T (second_end ends k) c) e in
      let b = and_true (is_empty T (first_end ends k) c) (is_empty T (second_end ends k) c) r.1 in
      let h = ltb-false limit c (not-true (ltb limit c) r.0) in
      (h, λ v at. elim at [ inl p ↦ rw (← p) (sym (says h (first_end ends k)) ∙ b.0) | inr p ↦ rw (← p) (sym (says h (second_end ends k)) ∙ b.1) ])

  may_take_false : may_take ends T k c limit ≡ false → c ≤ limit → (v : ℕ) × At ends k v × (is_free l (edges_at ends m v) c ≡ false)
  unfolding may_take
  may_take_false e h = by-test (is_empty T (first_end ends k) c)
      (λ t. (second_end ends k, inr refl, sym (says h (second_end ends k)) ∙ (rw (le-ltb limit c h, t) at e)))
      (λ t. (first_end ends k, inl refl, sym (says h (first_end ends k)) ∙ t))

-- ---- the working list

drop_replicate : (k n x : ℕ) → drop k (replicate n x) ≡ replicate (n - k) x
drop_replicate zero n x = let e : n ≡ n - zero = omega arith in ap (λ (i : ℕ). replicate i x) e
drop_replicate (suc k) zero x = let e : zero ≡ zero - suc k = omega arith in ap (λ (i : ℕ). replicate i x) e
drop_replicate (suc k) (suc n) x = let e : n - k ≡ suc n - suc k = omega arith in drop_replicate k n x ∙ ap (λ (i : ℕ). replicate i x) e

-- A list that begins with the first k of the stored colours, as a copy in progress.
stored_front : (stored : List ℕ) (k : ℕ) → k ≤ length stored → stored_list (take k stored) ≡ take k stored ++ drop k (replicate 4096 no_color)
unfolding stored_list
stored_front stored k h = rw (length-take-le k stored h, drop_replicate k 4096 no_color)

stored_more : (stored : List ℕ) (k : ℕ) → k < length stored → length stored ≤ 4096 → set (stored_list (take k stored)) k (get_or stored k 0) ≡ stored_list (take (suc k) stored)
stored_more stored k h few =
    let e = copied_next stored (replicate 4096 no_color) (stored_list (take k stored)) k (stored_front stored k (omega arith)) h (rw (length-replicate {A = ℕ} 4096 no_color) (omega arith)) in
    rw (add-one k) at e ∙ sym (stored_front stored (suc k) h)

-- ---- edge by edge

-- The first k edges have their stored colours, the others none, and the table is right.
record Filled (n : ℕ) (ends stored : List ℕ) (k : ℕ) (s : State) : Type 0 where
  list : s.work ≡ stored_list (take k stored)
  tabled : TableOf ends (edge_count ends) s.work s.table
  range : (j : ℕ) → j < k → color_of stored j ≤ max_degree ends (edge_count ends) n

module _ (n : ℕ) (ends stored : List ℕ) (a : Admitted n ends) (few : length stored ≤ edge_count ends) where
  abbrev m : ℕ
  m = edge_count ends

  abbrev D : ℕ
  D = max_degree ends m n

  below : D < 576
  below = max_degree_below n ends a

  module _ (k : ℕ) (s : State) (F : Filled n ends stored k s) where
    filled_color : k ≤ length stored → (j : ℕ) → j < k → color_of s.work j ≡ color_of stored j
    filled_color h j b = ap (λ (l : List ℕ). color_of l j) F.list ∙ stored_color (take k stored) j (omega (arith, length-take-le k stored h)) ∙ color_take stored k j b

    filled_rest : k ≤ length stored → (j : ℕ) → k ≤ j → color_of s.work j ≡ no_color
    filled_rest h j b = ap (λ (l : List ℕ). color_of l j) F.list ∙ stored_uncolored (take k stored) j (omega (arith, length-take-le k stored h))

    -- All stored colours are taken: they are properly stored.
    filled_proper : k ≡ length stored → ProperlyStored n ends stored
    filled_proper e = record {
      range = λ j h. F.range j (omega arith);
      sharing = λ i j v p q differ same.
          let color = filled_color (omega arith) in
          differ (F.tabled.proper i j v (omega (arith, p.0), p.1) (omega (arith, q.0), q.1)
          (λ z. omega (arith, F.range i (omega (arith, p.0)), color i (omega (arith, p.0)), z, below))
          (color i (omega (arith, p.0)) ∙ same ∙ sym (color j (omega (arith, q.0)))));
    }

    module _ (h : k < length stored) where
      abbrev c : ℕ
      c = get_or stored k 0

      c_is : c ≡ color_of stored k
      c_is = color_read stored k 0 h

      filled_next : may_take ends s.table k c D ≡ true → Filled n ends stored (suc k) (colored ends s k c)
      unfolding colored
      filled_next t =
          let r = may_take_true ends m s.work s.table F.tabled k c D (omega (arith, below)) t in
          record {
            list = ap (λ (l : List ℕ). set l k c) F.list ∙ stored_more stored k h (omega (arith, a.edges));
            tabled = color_keeps ends m s.work s.table F.tabled k (omega arith) c (omega (arith, r.0, below)) (filled_rest (omega arith) k (omega arith))
                (λ v at j b. is_free_true s.work (edges_at ends m v) c (r.1 v at.1) j (at_edge ends m v j b.0 b.1));
            range = λ j b. elim (dec_eq j k) [ inl e ↦ rw (e, ← c_is) r.0 | inr e ↦ F.range j (omega arith) ];
          }

      -- The edge may not take its colour: they are not.
      filled_stop : may_take ends s.table k c D ≡ false → ProperlyStored n ends stored → ⊥
      filled_stop t P =
          let r = may_take_false ends m s.work s.table F.tabled k c D (omega (arith, below)) t (rw c_is (P.range k h)) in
          let q = is_free_false s.work (edges_at ends m r.0) c r.2 in
          let i = q.0 in
          let at = edge_at ends m r.0 i q.1 in
          let earlier = colored_before s.work k (filled_rest (omega arith)) i (λ z. omega (arith, q.2, z, c_is, P.range k h, below)) in
          P.sharing i k r.0 (omega (arith, earlier), at.1) (h, r.1) (λ z. omega (arith, earlier, z)) (sym (filled_color (omega arith) i earlier) ∙ q.2 ∙ c_is)

  -- What the answer tells.
  record Decided (r : Stored) : Type 0 where
    yes : r.all ≡ true → Filled n ends stored (length stored) r.state
    no : r.all ≡ false → ProperlyStored n ends stored → ⊥

  filled_all : (fuel k : ℕ) (s : State) → Filled n ends stored k s → fuel + k ≡ length stored → Decided (stored_from ends D s k (drop k stored))
  filled_all zero k s F e =
      let p : k ≡ length stored = omega arith in
      rw (stored_end ends stored D s k (omega arith)) (record { yes = λ y. rw (← p) F; no = λ y. absurd (true≢false y) })
  filled_all (suc fuel) k s F e = by-test (may_take ends s.table k (get_or stored k 0) D)
      (λ t. rw (stored_next ends stored D s k (omega arith) t, add-one k) (filled_all fuel (suc k) (colored ends s k (get_or stored k 0)) (filled_next k s F (omega arith) t) (omega arith)))
      (λ t. rw (stored_stop ends stored D s k (omega arith) t) (record { yes = λ y. absurd (true≢false (sym y)); no = λ y. filled_stop k s F (omega arith) t }))

  -- `color_stored` from an empty working list and an empty table of N places, with D: what it answers and leaves.
  module _ (limit : ℕ) (d : limit ≡ D) (N : ℕ) (size : N ≡ 294912) (b : Bool) (work table : List ℕ)
      (answer : b ≡ (color_stored ends stored limit (state (replicate 4096 no_color) (replicate N no_edge))).all)
      (left : state work table ≡ (color_stored ends stored limit (state (replicate 4096 no_color) (replicate N no_edge))).state) where
    abbrev start : State
    start = state (replicate 4096 no_color) (replicate N no_edge)

    filled_start : Filled n ends stored 0 start
    filled_start = record { list = sym (stored_front stored 0 (omega arith)); tabled = admitted_table n ends a N size; range = λ j h. let z : ⊥ = omega arith in absurd z }

    decided : Decided (color_stored ends stored limit start)
    decided = rw (stored_start ends stored limit start (omega (arith, a.edges)), d) (filled_all (length stored) 0 start filled_start (omega arith))

    pub stored_yes : b ≡ true → ProperlyStored n ends stored × (work ≡ stored_list stored) × TableOf ends (edge_count ends) work table
    stored_yes y =
        let F = decided.yes (sym answer ∙ y) in (
          filled_proper (length stored) (color_stored ends stored limit start).state F refl,
          ap (λ (s : State). s.work) left ∙ F.list ∙ ap stored_list (take-length stored),
          subst (λ (s : State). TableOf ends m s.work s.table) (sym left) F.tabled,
        )

    pub stored_no : b ≡ false → ProperlyStored n ends stored → ⊥
    stored_no y = decided.no (sym answer ∙ y)
