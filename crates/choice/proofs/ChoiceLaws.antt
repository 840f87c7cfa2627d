-- Laws of what specs/Choice defines.
use Prim.Native.Nat.{ℕ, zero, suc, ◌+◌, ◌≤◌, ◌<◌, max}
use mathlib.Core.Path.{◌≡◌, refl, sym, subst, ◌∙◌}
use mathlib.Core.Logic.{◌⊎◌, inl, inr, ◌≢◌}
use mathlib.Core.List.{List}
use mathlib.Core.Option.{Option, none, some}
use mathlib.Core.Bool.{Bool, true, false, true≢false}
use native.Mathlib.Omega.{arith}
use native.Mathlib.Numerals.{add-one}
use native.Mathlib.Nat.{not-suc-le-zero}
use lib.ListN.{length, get_or, take}
use lib.Seq.{get_or-take, length-take-le}
use lib.Dec.{eqb, ltb}
use borrow.Author.Tests.{lt-ltb, le-ltb, eq-eqb, ne_eqb, eqb-true, not-true}
use Rattle.lists.proofs.Tests.{by-test, dec_eq, and_true, and_false}
use Rattle.graph.specs.Color.{no_color}
use Rattle.graph.specs.Colored.{color_of, is_colored}
use Rattle.graph.proofs.ColorLaws.{color_read, is_colored_false, uncolored_false, colored_true}
use Rattle.choice.specs.Choice.{greatest_below, lowest_below, count_with, can_be_next, choice_of}

-- ---- the greatest value

module _ (f : ℕ → ℕ) where
  pub greatest_none : 0 ≡ greatest_below f 0
  unfolding greatest_below
  greatest_none = refl

  -- One number more, with the value x.
  pub greatest_more : (n best x r : ℕ) → best ≡ greatest_below f n → x ≡ f n → r ≡ max best x → r ≡ greatest_below f (n + 1)
  unfolding greatest_below
  greatest_more n best x r so_far value e = rw (add-one n) (omega (arith, so_far, value))

  greatest_bound : (n v : ℕ) → v < n → f v ≤ greatest_below f n
  unfolding greatest_below
  greatest_bound zero v h = absurd (not-suc-le-zero h)
  greatest_bound (suc n) v h = elim (dec_eq v n) [ inl e ↦ rw e (omega arith) | inr e ↦ omega (arith, greatest_bound n v (omega arith)) ]

  greatest_reached : (n : ℕ) → greatest_below f n ≢ 0 → (v : ℕ) × (v < n) × (f v ≡ greatest_below f n)
  unfolding greatest_below
  greatest_reached zero z = absurd (z refl)
  greatest_reached (suc n) z = elim (dec_eq (max (greatest_below f n) (f n)) (f n)) [
    | inl e ↦ (n, omega arith, sym e)
    | inr e ↦ let r = greatest_reached n (omega arith) in (r.0, omega (arith, r.1), omega (arith, r.2))
  ]

-- Functions that agree below n have one greatest value there.
pub greatest_agrees : (f g : ℕ → ℕ) (n : ℕ) → ((v : ℕ) → v < n → f v ≡ g v) → greatest_below f n ≡ greatest_below g n
unfolding greatest_below
greatest_agrees f g zero e = refl
greatest_agrees f g (suc n) e = omega (arith, greatest_agrees f g n (λ v h. e v (omega arith)), e n (omega arith))

-- ---- the lowest number

module _ (t : ℕ → Bool) where
  pub lowest_begin : lowest_below t 0 ≡ none
  unfolding lowest_below
  lowest_begin = refl

  pub lowest_next : (n : ℕ) → lowest_below t n ≡ none → t n ≡ false → lowest_below t (n + 1) ≡ none
  unfolding lowest_below
  lowest_next n e f = rw (add-one n, lowest_below, e, f)

  -- One found below n is found below any greater number.
  lowest_kept : (n k : ℕ) → lowest_below t n ≡ some k → lowest_below t (suc n) ≡ some k
  unfolding lowest_below
  lowest_kept n k e = rw (lowest_below, e)

  lowest_last : (n : ℕ) → lowest_below t n ≡ none → t n ≡ true → lowest_below t (suc n) ≡ some n
  unfolding lowest_below
  lowest_last n e p = rw (lowest_below, e, p)

  lowest_here : (n k : ℕ) → lowest_below t k ≡ none → t k ≡ true → k < n → lowest_below t n ≡ some k
  lowest_here zero k e p h = absurd (not-suc-le-zero h)
  lowest_here (suc n) k e p h = elim (dec_eq k n) [
    | inl z ↦ subst (λ (m : ℕ). lowest_below t (suc m) ≡ some k) z (lowest_last k e p)
    | inr z ↦ lowest_kept n k (lowest_here n k e p (omega arith))
  ]

  lowest_none : (n : ℕ) → lowest_below t n ≡ none → (v : ℕ) → v < n → t v ≡ false
  unfolding lowest_below
  lowest_none zero e v h = absurd (not-suc-le-zero h)
  lowest_none (suc n) e v h = go (lowest_none n) (lowest_below t n) refl (t n) refl
    where
      go : (lowest_below t n ≡ none → (v : ℕ) → v < n → t v ≡ false) → (o : Option ℕ) → lowest_below t n ≡ o → (b : Bool) → t n ≡ b → t v ≡ false
      go rec (some k) p b q = let z : some k ≡ none = rw (lowest_below, p) at e in cc
      go rec none p true q = let z : some n ≡ none = rw (lowest_below, p, q) at e in cc
      go rec none p false q = elim (dec_eq v n) [ inl z ↦ rw z q | inr z ↦ rec p v (omega arith) ]

  lowest_some : (n k : ℕ) → lowest_below t n ≡ some k → (k < n) × (t k ≡ true) × ((v : ℕ) → v < k → t v ≡ false)
  unfolding lowest_below
  lowest_some zero k e = let y : ◌≡◌ {A = ℕ} 0 1 = cc in absurd (omega arith)
  lowest_some (suc n) k e = go (lowest_some n k) (lowest_below t n) refl (t n) refl
    where
      go : (lowest_below t n ≡ some k → (k < n) × (t k ≡ true) × ((v : ℕ) → v < k → t v ≡ false)) → (o : Option ℕ) → lowest_below t n ≡ o → (b : Bool) → t n ≡ b → (k < suc n) × (t k ≡ true) × ((v : ℕ) → v < k → t v ≡ false)
      go rec (some j) p b q = let r = rec (p ∙ (rw (lowest_below, p) at e)) in (omega (arith, r.0), r.1, r.2)
      go rec none p true q = let z : some n ≡ some k = rw (lowest_below, p, q) at e in let y : n ≡ k = cc in (omega arith, rw (← y) q, λ v h. lowest_none n p v (omega arith))
      go rec none p false q = let z : none ≡ some k = rw (lowest_below, p, q) at e in let y : ◌≡◌ {A = ℕ} 0 1 = cc in absurd (omega arith)

-- ---- the choice

-- The test, as the code makes it.
module _ (colors saturations waiting : List ℕ) (most longest k : ℕ) where
  pub other_saturation : (get_or saturations k 0 ≡ most → ⊥) → can_be_next colors saturations waiting most longest k ≡ false
  unfolding can_be_next
  other_saturation n = rw (ne_eqb (get_or saturations k 0) most n)

  pub other_waiting : (get_or waiting k 0 ≡ longest → ⊥) → can_be_next colors saturations waiting most longest k ≡ false
  unfolding can_be_next
  other_waiting n = rw (ne_eqb (get_or waiting k 0) longest n) (and_false (eqb (get_or saturations k 0) most) false refl)

  pub has_color_lem : k < length colors → (get_or colors k 0 ≡ no_color → ⊥) → can_be_next colors saturations waiting most longest k ≡ false
  unfolding can_be_next
  has_color_lem h n = rw (colored_true colors k (λ e. n (color_read colors k 0 h ∙ e))) (and_false (eqb (get_or saturations k 0) most) _ (and_false (eqb (get_or waiting k 0) longest) false refl))

  can_be : color_of colors k ≡ no_color → get_or saturations k 0 ≡ most → get_or waiting k 0 ≡ longest → can_be_next colors saturations waiting most longest k ≡ true
  unfolding can_be_next
  can_be e p q = rw (eq-eqb (get_or saturations k 0) most p, eq-eqb (get_or waiting k 0) longest q, uncolored_false colors k e)

  said : can_be_next colors saturations waiting most longest k ≡ true → (get_or saturations k 0 ≡ most) × (get_or waiting k 0 ≡ longest) × (color_of colors k ≡ no_color)
  unfolding can_be_next
  said e =
      let a = and_true (eqb (get_or saturations k 0) most) _ e in
      let b = and_true (eqb (get_or waiting k 0) longest) _ a.1 in
      (eqb-true (get_or saturations k 0) most a.0, eqb-true (get_or waiting k 0) longest b.0, is_colored_false colors k (not-true (is_colored colors k) b.1))

-- The greatest counts of the front of the lists, as the code takes it.
module _ (saturations waiting : List ℕ) (n : ℕ) (saturations_room : n ≤ length saturations) where
  pub most_of_front : (most : ℕ) → most ≡ greatest_below (λ v. get_or (take n saturations) v 0) (length (take n saturations)) → most ≡ greatest_below (λ v. get_or saturations v 0) n
  most_of_front most e = e ∙ rw (length-take-le n saturations saturations_room) (greatest_agrees (λ v. get_or (take n saturations) v 0) (λ v. get_or saturations v 0) n (λ v h. get_or-take n saturations v 0 h))

  pub longest_of_front : (most longest : ℕ) → longest ≡ greatest_below (count_with (take n saturations) most (take n waiting)) (length (take n saturations)) → longest ≡ greatest_below (count_with saturations most waiting) n
  longest_of_front most longest e = e ∙ rw (length-take-le n saturations saturations_room) (greatest_agrees (count_with (take n saturations) most (take n waiting)) (count_with saturations most waiting) n (λ v h. rw (get_or-take n saturations v 0 h, get_or-take n waiting v 0 h)))

-- No choice without the counts.
module _ (colors saturations waiting : List ℕ) where
  pub too_many : 4096 < length colors → none ≡ choice_of colors saturations waiting
  unfolding choice_of
  too_many h = rw (lt-ltb 4096 (length colors) h)

  pub few_saturations : length saturations < length colors → none ≡ choice_of colors saturations waiting
  unfolding choice_of
  few_saturations h = by-test (ltb 4096 (length colors)) (λ t. rw t) (λ t. rw (t, lt-ltb (length saturations) (length colors) h))

  pub few_waiting : length waiting < length colors → none ≡ choice_of colors saturations waiting
  unfolding choice_of
  few_waiting h = by-test (ltb 4096 (length colors)) (λ t. rw t) (λ t. by-test (ltb (length saturations) (length colors)) (λ u. rw (t, u)) (λ u. rw (t, u, lt-ltb (length waiting) (length colors) h)))

  module _ (few : length colors ≤ 4096) (saturations_room : length colors ≤ length saturations) (waiting_room : length colors ≤ length waiting) where
    choice_lowest : choice_of colors saturations waiting
        ≡ (let n = length colors in let most = greatest_below (λ v. get_or saturations v 0) n in lowest_below (can_be_next colors saturations waiting most (greatest_below (count_with saturations most waiting) n)) n)
    unfolding choice_of
    choice_lowest = rw (le-ltb 4096 (length colors) few, le-ltb (length saturations) (length colors) saturations_room, le-ltb (length waiting) (length colors) waiting_room)

    -- The scan, with the two counts at hand.
    module _ (most longest : ℕ) (first : most ≡ greatest_below (λ v. get_or saturations v 0) (length colors)) (second : longest ≡ greatest_below (count_with saturations most waiting) (length colors)) where
      choice_scan : choice_of colors saturations waiting ≡ lowest_below (can_be_next colors saturations waiting most longest) (length colors)
      choice_scan = choice_lowest ∙ rw (second, first)

      pub choice_found : (k : ℕ) → lowest_below (can_be_next colors saturations waiting most longest) k ≡ none → k < length colors → get_or saturations k 0 ≡ most → get_or waiting k 0 ≡ longest → get_or colors k 0 ≡ no_color
          → some k ≡ choice_of colors saturations waiting
      choice_found k below h p q e =
          sym (choice_scan ∙ lowest_here (can_be_next colors saturations waiting most longest) (length colors) k below (can_be colors saturations waiting most longest k (sym (color_read colors k 0 h) ∙ e) p q) h)

      pub choice_none : (k : ℕ) → lowest_below (can_be_next colors saturations waiting most longest) k ≡ none → k ≤ length colors → length colors ≤ k → none ≡ choice_of colors saturations waiting
      choice_none k below h l = let z : k ≡ length colors = omega arith in sym (choice_scan ∙ (rw z at below))

-- ---- what the choice is

-- Item k has no colour, no item has a greater saturation, none with the same saturation a greater waiting count, and none below k has both and no colour.
pub record Best (colors saturations waiting : List ℕ) (k : ℕ) : Type 0 where
  pub inside : k < length colors
  pub bare : color_of colors k ≡ no_color
  pub most : (u : ℕ) → u < length colors → get_or saturations u 0 ≤ get_or saturations k 0
  pub longest : (u : ℕ) → u < length colors → get_or saturations u 0 ≡ get_or saturations k 0 → get_or waiting u 0 ≤ get_or waiting k 0
  pub lowest : (u : ℕ) → u < k → color_of colors u ≡ no_color → get_or saturations u 0 ≡ get_or saturations k 0 → get_or waiting u 0 < get_or waiting k 0

module _ (colors saturations waiting : List ℕ) (few : length colors ≤ 4096) (saturations_room : length colors ≤ length saturations) (waiting_room : length colors ≤ length waiting) where
  -- The two counts that the choice goes by.
  abbrev most : ℕ
  most = greatest_below (λ v. get_or saturations v 0) (length colors)

  abbrev longest : ℕ
  longest = greatest_below (count_with saturations most waiting) (length colors)

  most_bound : (u : ℕ) → u < length colors → get_or saturations u 0 ≤ most
  most_bound u h = greatest_bound (λ v. get_or saturations v 0) (length colors) u h

  longest_bound : (u : ℕ) → u < length colors → get_or saturations u 0 ≡ most → get_or waiting u 0 ≤ longest
  longest_bound u h e = rw (eq-eqb (get_or saturations u 0) most e) at (greatest_bound (count_with saturations most waiting) (length colors) u h)

  longest_reached : longest ≢ 0 → (v : ℕ) × (v < length colors) × (get_or saturations v 0 ≡ most) × (get_or waiting v 0 ≡ longest)
  longest_reached z =
      let r = greatest_reached (count_with saturations most waiting) (length colors) z in
      by-test (eqb (get_or saturations r.0 0) most)
      (λ t. (r.0, r.1, eqb-true (get_or saturations r.0 0) most t, rw t at r.2))
      (λ t. absurd (z (sym (rw t at r.2))))

  pub some_best : (k : ℕ) → some k ≡ choice_of colors saturations waiting → Best colors saturations waiting k
  some_best k e =
      let l = lowest_some (can_be_next colors saturations waiting most longest) (length colors) k (sym (e ∙ choice_lowest colors saturations waiting few saturations_room waiting_room)) in
      let s = said colors saturations waiting most longest k l.1 in
      record {
        inside = l.0;
        bare = s.2;
        most = λ u h. omega (arith, most_bound u h, s.0);
        longest = λ u h p. omega (arith, longest_bound u h (p ∙ s.0), s.1);
        lowest = λ u h b p. elim (dec_eq (get_or waiting u 0) longest) [
          | inl q ↦ absurd (true≢false (sym (can_be colors saturations waiting most longest u b (p ∙ s.0) q) ∙ l.2 u h))
          | inr q ↦ omega (arith, longest_bound u (omega (arith, l.0)) (p ∙ s.0), s.1, q)
        ];
      }

  -- Where the items with a colour have both counts 0 there is a choice unless each item has a colour: the greatest counts are 0, or reached by an item without.
  pub none_bare : ((v : ℕ) → color_of colors v ≢ no_color → (get_or saturations v 0 ≡ 0) × (get_or waiting v 0 ≡ 0)) → none ≡ choice_of colors saturations waiting
      → (u : ℕ) → u < length colors → color_of colors u ≢ no_color
  none_bare cleared e u h bare = elim (dec_eq longest 0) [
    | inr y ↦ let r = longest_reached y in no r.0 r.1 (counted r.0 (inr (λ z. y (sym r.3 ∙ z)))) r.2 r.3
    | inl y ↦ elim (dec_eq most 0) [
      | inr x ↦ let r = greatest_reached (λ v. get_or saturations v 0) (length colors) x in no r.0 r.1 (counted r.0 (inl (λ z. x (sym r.2 ∙ z)))) r.2 (omega (arith, longest_bound r.0 r.1 r.2))
      | inl x ↦ let p : get_or saturations u 0 ≡ most = omega (arith, most_bound u h) in no u h bare p (omega (arith, longest_bound u h p))
    ]
  ]
    where
      no : (v : ℕ) → v < length colors → color_of colors v ≡ no_color → get_or saturations v 0 ≡ most → get_or waiting v 0 ≡ longest → ⊥
      no v h b p q = true≢false (sym (can_be colors saturations waiting most longest v b p q) ∙ lowest_none (can_be_next colors saturations waiting most longest) (length colors) (sym (e ∙ choice_lowest colors saturations waiting few saturations_room waiting_room)) v h)

      -- An item with a count other than 0 has no colour.
      counted : (v : ℕ) → (get_or saturations v 0 ≢ 0) ⊎ (get_or waiting v 0 ≢ 0) → color_of colors v ≡ no_color
      counted v n = elim (dec_eq (color_of colors v) no_color) [ inl b ↦ b | inr d ↦ let r = cleared v d in elim n [ inl z ↦ absurd (z r.0) | inr z ↦ absurd (z r.1) ] ]
