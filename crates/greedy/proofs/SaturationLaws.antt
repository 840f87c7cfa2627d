-- Laws of Saturation: the port's run is legal, and what holds of its colours.
use Prim.Native.Nat.{ℕ, zero, suc, ◌≤◌, ◌<◌}
use mathlib.Core.Bool.{Bool, true, not, cond, true≢false}
use mathlib.Core.List.{List, [], ◌∷◌}
use mathlib.Core.Logic.{◌⊎◌, inl, inr, ◌≢◌}
use mathlib.Core.Path.{◌≡◌, refl, sym, ap, subst, ◌∙◌}
use native.Mathlib.Omega.{arith}
use lib.Dec.{eqb, ltb}
use lib.ListN.{length}
use borrow.Author.Tests.{ltb-true, eqb-true, eq-eqb, lt-ltb}
use Rattle.lists.proofs.Tests.{by-test, and_true, true_and, or_true, true_or}
use Rattle.lists.specs.Member.{Mem}
use Rattle.lists.proofs.MemberLaws.{mem_elem}
use Rattle.lists.specs.Equal.{equal}
use Rattle.lists.proofs.SearchLaws.{equal_self}
use Rattle.graph.specs.Color.{no_color}
use Rattle.graph.specs.Colored.{color_of, smallest_free_at}
use Rattle.greedy.specs.Turn.{uncolored, color_item}
use Rattle.greedy.proofs.TurnLaws.{uncolored_member, member_uncolored, uncolored_few, uncolored_less, Partial, partial_presets, partial_turn, partial_greedy, turn_color, turn_here, turn_other, turn_size, color_item_lem}
use Rattle.greedy.specs.Greedy.{Neighborhood, Greedy}
use Rattle.greedy.specs.Saturation.{saturation, uncolored_neighbors, greater, greatest, saturation_from, order_from, saturation_colors, none_greater, legal_turn, legal_run}
-- No name of it is used: the rows are to be checked before the laws, so that a wrong definition is refused for what it gives.
use Rattle.greedy.specs.Examples

module _ (nb : ℕ → List ℕ) where
  module _ (colors : List ℕ) where
    -- u has more different colours on its neighbours than v, or as many and more uncoloured neighbours.
    abbrev Greater : ℕ → ℕ → Type 0
    Greater u v = (saturation nb colors v < saturation nb colors u) ⊎ ((saturation nb colors v ≡ saturation nb colors u) × (uncolored_neighbors nb colors v < uncolored_neighbors nb colors u))

    greater_true : (u v : ℕ) → greater nb colors u v ≡ true → Greater u v
    unfolding greater
    greater_true u v e = elim (or_true (ltb (saturation nb colors v) (saturation nb colors u)) _ e) [
      | inl p ↦ inl (ltb-true _ _ p)
      | inr p ↦ let r = and_true (eqb (saturation nb colors v) (saturation nb colors u)) _ p in inr (eqb-true _ _ r.0, ltb-true _ _ r.1)
    ]

    true_greater : (u v : ℕ) → Greater u v → greater nb colors u v ≡ true
    unfolding greater
    true_greater u v (inl h) = simp (lt-ltb _ _ h)
    true_greater u v (inr h) = true_or (ltb (saturation nb colors v) (saturation nb colors u)) _ (true_and _ _ (eq-eqb _ _ h.0) (lt-ltb _ _ h.1))

    -- What is greater than u, which is greater than v, is greater than v.
    greater_trans : (t u v : ℕ) → Greater t u → Greater u v → Greater t v
    greater_trans t u v (inl a) (inl b) = inl (omega arith)
    greater_trans t u v (inl a) (inr b) = inl (omega (arith, b.0))
    greater_trans t u v (inr a) (inl b) = inl (omega (arith, a.0))
    greater_trans t u v (inr a) (inr b) = inr (omega (arith, a.0, b.0), omega (arith, a.1, b.1))

    greater_self : (v : ℕ) → Greater v v → ⊥
    greater_self v (inl a) = omega arith
    greater_self v (inr a) = omega (arith, a.1)

    -- The greatest of a list is one of it,
    pub greatest_member : (v : ℕ) (us : List ℕ) → Mem (greatest nb colors v us) (v ∷ us)
    unfolding greatest
    greatest_member v [] = inl refl
    greatest_member v (u ∷ us) = by-test (greater nb colors u v)
        (λ t. let e : greatest nb colors v (u ∷ us) ≡ greatest nb colors u us = ap (λ (b : Bool). greatest nb colors (cond b u v) us) t in
        subst (λ (x : ℕ). Mem x (v ∷ u ∷ us)) (sym e) (inr (greatest_member u us)))
        (λ t. let e : greatest nb colors v (u ∷ us) ≡ greatest nb colors v us = ap (λ (b : Bool). greatest nb colors (cond b u v) us) t in
        let within : Mem (greatest nb colors v us) (v ∷ u ∷ us) = elim (greatest_member v us) [ inl p ↦ inl p | inr p ↦ inr (inr p) ] in
        subst (λ (x : ℕ). Mem x (v ∷ u ∷ us)) (sym e) within)

    -- and none of the list is greater than it; nor is what is not greater than where the search began.
    greatest_above : (v : ℕ) (us : List ℕ) (x : ℕ) → (Greater x v → ⊥) → Greater x (greatest nb colors v us) → ⊥
    unfolding greatest
    greatest_above v [] x n g = n g
    greatest_above v (u ∷ us) x n g = by-test (greater nb colors u v)
        (λ t. greatest_above u us x (λ h. n (greater_trans x u v h (greater_true u v t))) (rw (t, greatest) at g))
        (λ t. greatest_above v us x n (rw (t, greatest) at g))

    pub greatest_greatest : (v : ℕ) (us : List ℕ) (x : ℕ) → Mem x (v ∷ us) → Greater x (greatest nb colors v us) → ⊥
    unfolding greatest
    greatest_greatest v us x (inl e) g = greatest_above v us x (λ h. greater_self v (rw e at h)) g
    greatest_greatest v [] x (inr x8) g = elim x8 [ ]
    greatest_greatest v (u ∷ us) x (inr (inl e)) g = by-test (greater nb colors u v)
        (λ t. greatest_above u us x (λ h. greater_self u (rw e at h)) (rw (t, greatest) at g))
        (λ t. greatest_above v us x (λ h. true≢false (sym (true_greater u v (rw e at h)) ∙ t)) (rw (t, greatest) at g))
    greatest_greatest v (u ∷ us) x (inr (inr p)) g = by-test (greater nb colors u v)
        (λ t. greatest_greatest u us x (inr p) (rw (t, greatest) at g))
        (λ t. greatest_greatest v us x (inr p) (rw (t, greatest) at g))

    none_greater_lem : (v : ℕ) (us : List ℕ) → ((x : ℕ) → Mem x us → Greater x v → ⊥) → none_greater nb colors v us ≡ true
    unfolding none_greater
    none_greater_lem v [] n = refl
    none_greater_lem v (u ∷ us) n = true_and (not (greater nb colors u v)) (none_greater nb colors v us)
        (by-test (greater nb colors u v) (λ t. absurd (n u (inl refl) (greater_true u v t))) (λ t. ap not t))
        (none_greater_lem v us (λ x p. n x (inr p)))

  -- ---- runs

  -- A turn, where some item has no colour; and none, where all have one.
  from_next : (n turns : ℕ) (colors : List ℕ) (v : ℕ) (vs : List ℕ) → uncolored colors n ≡ v ∷ vs → saturation_from nb n (suc turns) colors ≡ saturation_from nb n turns (color_item nb colors (greatest nb colors v vs))
  unfolding saturation_from
  from_next n turns colors v vs e = rw (e, saturation_from)

  from_done : (n turns : ℕ) (colors : List ℕ) → uncolored colors n ≡ [] → saturation_from nb n turns colors ≡ colors
  unfolding saturation_from
  from_done n zero colors e = refl
  from_done n (suc turns) colors e = rw (e, saturation_from)

  from_none : (n : ℕ) (colors : List ℕ) → saturation_from nb n 0 colors ≡ colors
  unfolding saturation_from
  from_none n colors = refl

  order_next : (n turns : ℕ) (colors : List ℕ) (v : ℕ) (vs : List ℕ) → uncolored colors n ≡ v ∷ vs → order_from nb n (suc turns) colors ≡ greatest nb colors v vs ∷ order_from nb n turns (color_item nb colors (greatest nb colors v vs))
  unfolding order_from
  order_next n turns colors v vs e = rw (e, order_from)

  order_done : (n turns : ℕ) (colors : List ℕ) → uncolored colors n ≡ [] → order_from nb n turns colors ≡ []
  unfolding order_from
  order_done n zero colors e = refl
  order_done n (suc turns) colors e = rw (e, order_from)

  empty_or_not : (l : List ℕ) → (l ≡ []) ⊎ ((v : ℕ) × (vs : List ℕ) × (l ≡ v ∷ vs))
  empty_or_not [] = inl refl
  empty_or_not (v ∷ vs) = inr (v, vs, refl)

  length_none : (l : List ℕ) → length l ≤ 0 → l ≡ []
  length_none [] h = refl
  length_none (v ∷ vs) h = let z : ⊥ = omega arith in absurd z

  module _ (n : ℕ) (hood : Neighborhood nb n) where
    -- The item of a turn, by what is known of it.
    record Turn (colors : List ℕ) (u : ℕ) : Type 0 where
      listed : Mem u (uncolored colors n)
      inside : u < n
      none : color_of colors u ≡ no_color
      top : (x : ℕ) → Mem x (uncolored colors n) → Greater colors x u → ⊥

    turn : (colors : List ℕ) (v : ℕ) (vs : List ℕ) → uncolored colors n ≡ v ∷ vs → Turn colors (greatest nb colors v vs)
    turn colors v vs e =
        let m = subst (Mem (greatest nb colors v vs)) (sym e) (greatest_member colors v vs) in
        let r = uncolored_member colors n (greatest nb colors v vs) m in
        record { listed = m; inside = r.0; none = r.1; top = λ x p. greatest_greatest colors v vs x (subst (Mem x) e p) }

    turn_less : (colors : List ℕ) (u : ℕ) → length colors ≡ n → Turn colors u → length (uncolored (color_item nb colors u) n) < length (uncolored colors n)
    turn_less colors u l t = rw (color_item_lem nb colors u) (uncolored_less colors n u (smallest_free_at colors (nb u)) (omega arith) t.listed (turn_color nb n hood colors l u t.inside))

    -- What has a colour keeps it.
    from_keeps : (turns : ℕ) (colors : List ℕ) → length colors ≡ n → (x : ℕ) → color_of colors x ≢ no_color → color_of (saturation_from nb n turns colors) x ≡ color_of colors x
    from_keeps zero colors l x d = ap (λ (c : List ℕ). color_of c x) (from_none n colors)
    from_keeps (suc turns) colors l x d = elim (empty_or_not (uncolored colors n)) [
      | inl e ↦ ap (λ (c : List ℕ). color_of c x) (from_done n (suc turns) colors e)
      | inr (v, vs, e) ↦
          let u = greatest nb colors v vs in
          let t = turn colors v vs e in
          let o = turn_other nb n hood colors l u t.inside x (λ q. d (ap (color_of colors) q ∙ t.none)) in
          rw (from_next n turns colors v vs e) (from_keeps turns (color_item nb colors u) (turn_size nb n hood colors l u t.inside) x (λ z. d (sym o ∙ z)) ∙ o)
    ]

    all_colored_lem : (turns : ℕ) (presets colors : List ℕ) → Partial nb n presets colors → uncolored colors n ≡ [] → Greedy nb n presets (saturation_from nb n turns colors)
    all_colored_lem turns presets colors p e = rw (from_done n turns colors e) (partial_greedy nb n presets colors p (λ v k z. subst (Mem v) e (member_uncolored colors n v k z)))

    -- As many turns as items without a colour leave none.
    from_partial : (turns : ℕ) (presets colors : List ℕ) → Partial nb n presets colors → length (uncolored colors n) ≤ turns → Greedy nb n presets (saturation_from nb n turns colors)
    from_partial zero presets colors p h = all_colored_lem zero presets colors p (length_none (uncolored colors n) h)
    from_partial (suc turns) presets colors p h = elim (empty_or_not (uncolored colors n)) [
      | inl e ↦ all_colored_lem (suc turns) presets colors p e
      | inr (v, vs, e) ↦
          let u = greatest nb colors v vs in
          let t = turn colors v vs e in
          rw (from_next n turns colors v vs e) (from_partial turns presets (color_item nb colors u) (partial_turn nb n hood presets colors u t.inside t.none p) (omega (arith, turn_less colors u p.size t)))
    ]

    -- ---- the run is legal

    legal_end : (colors : List ℕ) → uncolored colors n ≡ [] → legal_run nb n colors [] colors ≡ true
    unfolding legal_run
    legal_end colors e = rw e (true_and (equal colors colors) (equal [] []) (equal_self colors) (equal_self []))

    legal_turn_lem : (colors : List ℕ) (u c : ℕ) → Turn colors u → c ≡ smallest_free_at colors (nb u) → legal_turn nb n colors u c ≡ true
    unfolding legal_turn
    legal_turn_lem colors u c t e = true_and _ _ (mem_elem u (uncolored colors n) t.listed) (true_and _ _ (none_greater_lem colors u (uncolored colors n) t.top) (eq-eqb c (smallest_free_at colors (nb u)) e))

    legal_next : (colors : List ℕ) (u : ℕ) (order answer : List ℕ) → Turn colors u → color_of answer u ≡ smallest_free_at colors (nb u) → legal_run nb n (color_item nb colors u) order answer ≡ true → legal_run nb n colors (u ∷ order) answer ≡ true
    unfolding legal_run
    legal_next colors u order answer t e rest = true_and _ _ (legal_turn_lem colors u (color_of answer u) t e) (rw e (rw (color_item_lem nb colors u) at rest))

    legal_done : (turns : ℕ) (colors : List ℕ) → uncolored colors n ≡ [] → legal_run nb n colors (order_from nb n turns colors) (saturation_from nb n turns colors) ≡ true
    legal_done turns colors e = rw (order_done n turns colors e, from_done n turns colors e) (legal_end colors e)

    legal_from : (turns : ℕ) (colors : List ℕ) → length colors ≡ n → length (uncolored colors n) ≤ turns → legal_run nb n colors (order_from nb n turns colors) (saturation_from nb n turns colors) ≡ true
    legal_from zero colors l h = legal_done zero colors (length_none (uncolored colors n) h)
    legal_from (suc turns) colors l h = elim (empty_or_not (uncolored colors n)) [
      | inl e ↦ legal_done (suc turns) colors e
      | inr (v, vs, e) ↦
          let u = greatest nb colors v vs in
          let t = turn colors v vs e in
          let size = turn_size nb n hood colors l u t.inside in
          let here = turn_here nb n hood colors l u t.inside in
          let keeps = from_keeps turns (color_item nb colors u) size u (λ z. turn_color nb n hood colors l u t.inside (sym here ∙ z)) in
          rw (order_next n turns colors v vs e, from_next n turns colors v vs e) (legal_next colors u (order_from nb n turns (color_item nb colors u)) (saturation_from nb n turns (color_item nb colors u)) t (keeps ∙ here)
          (legal_from turns (color_item nb colors u) size (omega (arith, turn_less colors u l t))))
    ]

    -- The port's run is legal: in the order of its turns it gives its answer.
    pub saturation_legal : (presets : List ℕ) → length presets ≡ n → legal_run nb n presets (order_from nb n n presets) (saturation_colors nb n presets) ≡ true
    unfolding saturation_colors
    saturation_legal presets l = legal_from n presets l (uncolored_few presets n)

    pub saturation_greedy : (presets : List ℕ) → length presets ≡ n → Greedy nb n presets (saturation_colors nb n presets)
    unfolding saturation_colors
    saturation_greedy presets l = from_partial n presets presets (partial_presets nb n presets l) (uncolored_few presets n)
