-- Laws of what specs/Parts defines.
use Prim.Native.Nat.{ℕ, suc, min, max, ◌+◌, ◌-◌, ◌*◌, ◌%◌, ◌≤◌, ◌<◌}
use mathlib.Core.Bool.{Bool, true, false}
use mathlib.Core.List.{List, [], ◌∷◌}
use mathlib.Core.Logic.{inl, inr}
use mathlib.Core.Path.{◌≡◌, refl, sym, ap, ◌∙◌}
use native.Mathlib.Numerals.{add-one}
use native.Mathlib.Omega.{arith}
use lib.ListN.{length, get_or, take, drop, length-drop, drop_of_length-le}
use lib.Seq.{take_all}
use lib.Dec.{eqb, ltb}
use borrow.Author.Tests.{eq-eqb, ne_eqb, lt-ltb, le-ltb, ltb-true, ltb-false}
use Rattle.std.specs.Prelude.{Some, None, position}
use Rattle.std.specs.List.{position_or_len}
use Rattle.lists.proofs.Tests.{by-test, dec_eq}
use Rattle.graph.specs.Edges.{first_end, second_end, is_loop}
use Rattle.graph.specs.Stretch.{bounds, stretch}
use Rattle.line_list.specs.LineNeighbors.{before_in, after_in, higher_end, lower_end}
use Rattle.greedy.specs.IndependentSet.{place_of}
use Rattle.line_parts.specs.Parts.{part_in, part_from, at_turn, part_at, part_start}

-- ---- the place of an edge

eqb_turned : (a b : ℕ) → eqb a b ≡ eqb b a
eqb_turned a b = elim (dec_eq a b) [ inl e ↦ eq-eqb a b e ∙ sym (eq-eqb b a (sym e)) | inr d ↦ ne_eqb a b d ∙ sym (ne_eqb b a (λ e. d (sym e))) ]

place_position : (k : ℕ) (l : List ℕ) → place_of k l ≡ position_or_len (λ x. eqb x k) l
unfolding place_of
place_position k [] = refl
place_position k (x ∷ l) = rw (eqb_turned x k) (by-test (eqb k x) (λ t. rw t) (λ t. rw t (omega (arith, place_position k l))))

-- As `position` finds it.
module _ (k : ℕ) (l : List ℕ) where
  pub place_some : (at : ℕ) → Some at ≡ position (λ x. eqb x k) l → (at ≡ place_of k l) × (at < length l)
  place_some at e = by-test (ltb (position_or_len (λ x. eqb x k) l) (length l))
      (λ t. let f : Some at ≡ Some (position_or_len (λ x. eqb x k) l) = rw t at e in let g : at ≡ position_or_len (λ x. eqb x k) l = cc in (g ∙ sym (place_position k l), omega (arith, ltb-true _ _ t)))
      (λ t. let f : Some at ≡ None = rw t at e in let z : ⊥ = cc in absurd z)

  pub place_none : None ≡ position (λ x. eqb x k) l → length l ≤ place_of k l
  place_none e = by-test (ltb (position_or_len (λ x. eqb x k) l) (length l))
      (λ t. let f : None ≡ Some (position_or_len (λ x. eqb x k) l) = rw t at e in let z : ⊥ = cc in absurd z)
      (λ t. omega (arith, place_position k l, ltb-false _ _ t))

-- ---- the part after it, and the one before it

part_before : (k : ℕ) (l : List ℕ) → take (place_of k l) l ≡ part_in false k l
unfolding place_of part_in before_in
part_before k [] = refl
part_before k (x ∷ l) = elim (dec_eq x k) [
  | inl e ↦ rw (eq-eqb x k e, eq-eqb k x (sym e))
  | inr d ↦ rw (ne_eqb x k d, ne_eqb k x (λ q. d (sym q))) (ap (λ (r : List ℕ). x ∷ r) (part_before k l))
]

part_after : (k : ℕ) (l : List ℕ) → drop (suc (place_of k l)) l ≡ part_in true k l
unfolding place_of part_in after_in
part_after k [] = refl
part_after k (x ∷ l) = elim (dec_eq x k) [
  | inl e ↦ rw (eq-eqb x k e, eq-eqb k x (sym e))
  | inr d ↦ rw (ne_eqb x k d, ne_eqb k x (λ q. d (sym q))) (part_after k l)
]

-- As the code cuts it, with k's place found.
module _ (later : Bool) (k at : ℕ) (l : List ℕ) (e : at ≡ place_of k l) where
  pub cut_after : later ≡ true → take (length l - (at + 1)) (drop (at + 1) l) ≡ part_in later k l
  cut_after t =
      let b : length (drop (suc at) l) ≤ length l - suc at = omega (arith, length-drop (suc at) l) in
      rw (add-one at, take_all (length l - suc at) (drop (suc at) l) b, t, e) (part_after k l)

  pub cut_none : later ≡ true → length l ≤ at → [] ≡ part_in later k l
  cut_none t h =
      let b : length l ≤ suc (place_of k l) = omega arith in
      rw t (sym (drop_of_length-le l b) ∙ part_after k l)

  pub cut_before : later ≡ false → take at l ≡ part_in later k l
  cut_before t = rw (t, e) (part_before k l)

  pub cut_all : later ≡ false → length l ≤ at → l ≡ part_in later k l
  cut_all t h = sym (take_all at l h) ∙ cut_before t

  pub from_after : later ≡ true → at < length l → part_from later k l ≡ at + 1
  unfolding part_from
  from_after t h = rw (t, ← e, lt-ltb at (length l) h)

  pub from_none : later ≡ true → length l ≤ at → part_from later k l ≡ 0
  unfolding part_from
  from_none t h = rw (t, ← e, le-ltb at (length l) h)

  pub from_before : later ≡ false → part_from later k l ≡ 0
  unfolding part_from
  from_before t = rw t

-- ---- the ends of an edge

module _ (ends : List ℕ) (k a b : ℕ) (p : a ≡ get_or ends (2 * k) 0) (q : b ≡ get_or ends (2 * k + 1) 0) where
  pub higher_end_max : max a b ≡ higher_end ends k
  unfolding higher_end first_end second_end
  higher_end_max = rw (← p, ← q) (by-test (ltb a b) (λ t. rw t (omega (arith, ltb-true a b t))) (λ t. rw t (omega (arith, ltb-false a b t))))

  pub lower_end_min : min a b ≡ lower_end ends k
  unfolding lower_end first_end second_end
  lower_end_min = rw (← p, ← q) (by-test (ltb a b) (λ t. rw t (omega (arith, ltb-true a b t))) (λ t. rw t (omega (arith, ltb-false a b t))))

pub ends_cases : (P : ℕ → ℕ → Type 0) (ends : List ℕ) (k : ℕ) → P (second_end ends k) (first_end ends k) → P (first_end ends k) (second_end ends k) → P (higher_end ends k) (lower_end ends k)
unfolding higher_end lower_end
ends_cases P ends k x y = by-test (ltb (first_end ends k) (second_end ends k)) (λ t. rw t x) (λ t. rw t y)

same_loop : (ends : List ℕ) (k : ℕ) → higher_end ends k ≡ lower_end ends k → is_loop ends k ≡ true
unfolding is_loop
same_loop ends k = ends_cases (λ (a b : ℕ). a ≡ b → is_loop ends k ≡ true) ends k (λ e. eq-eqb (first_end ends k) (second_end ends k) (sym e)) (λ e. eq-eqb (first_end ends k) (second_end ends k) e)

other_apart : (ends : List ℕ) (k : ℕ) → (higher_end ends k ≡ lower_end ends k → ⊥) → is_loop ends k ≡ false
unfolding is_loop
other_apart ends k = ends_cases (λ (a b : ℕ). (a ≡ b → ⊥) → is_loop ends k ≡ false) ends k (λ d. ne_eqb (first_end ends k) (second_end ends k) (λ e. d (sym e))) (λ d. ne_eqb (first_end ends k) (second_end ends k) d)

-- ---- what is said of a turn, as the code finds it

module _ {A : Type 0} (none : A) (at : ℕ → A) (ends : List ℕ) (k turn a b : ℕ) (p : a ≡ higher_end ends k) (q : b ≡ lower_end ends k) where
  turn_higher : turn % 2 ≡ 0 → at a ≡ at_turn none at ends k turn
  unfolding at_turn
  turn_higher t = rw (eq-eqb (turn % 2) 0 t, p)

  turn_lower : (turn % 2 ≡ 0 → ⊥) → (a ≡ b → ⊥) → at b ≡ at_turn none at ends k turn
  unfolding at_turn
  turn_lower t d = rw (ne_eqb (turn % 2) 0 t, other_apart ends k (λ r. d (p ∙ (r ∙ sym q))), q)

  pub turn_none : (turn % 2 ≡ 0 → ⊥) → a ≡ b → none ≡ at_turn none at ends k turn
  unfolding at_turn
  turn_none t e = rw (ne_eqb (turn % 2) 0 t, same_loop ends k (sym p ∙ (e ∙ q)))

-- The part of a turn and where it stands, given the edges at the node and where these stand.
module _ (starts entries ends : List ℕ) (k turn a b : ℕ) (p : a ≡ higher_end ends k) (q : b ≡ lower_end ends k) where
  abbrev part : ℕ → List ℕ
  part v = part_in (ltb turn 2) k (stretch starts entries v)

  abbrev from : ℕ → ℕ
  from v = (bounds starts entries v).start + part_from (ltb turn 2) k (stretch starts entries v)

  module _ (edges found : List ℕ) (base at place v : ℕ) (e : edges ≡ stretch starts entries v) (s : at ≡ base + 2 * (bounds starts entries v).start)
      (f : found ≡ part_in (ltb turn 2) k edges) (g : place ≡ at + 2 * part_from (ltb turn 2) k edges) where
    abbrev Found : Type 0
    Found = (found ≡ part_at (stretch starts entries) ends k turn) × (place ≡ base + 2 * part_start starts entries ends k turn)

    there : part v ≡ part_at (stretch starts entries) ends k turn → from v ≡ part_start starts entries ends k turn → Found
    there h i = (f ∙ (ap (part_in (ltb turn 2) k) e ∙ h), omega (arith, g, s, ap (part_from (ltb turn 2) k) e, i))

    pub part_higher : v ≡ a → turn % 2 ≡ 0 → Found
    unfolding part_at part_start
    part_higher z t = there (ap part z ∙ turn_higher [] part ends k turn a b p q t) (ap from z ∙ turn_higher 0 from ends k turn a b p q t)

    pub part_lower : v ≡ b → (turn % 2 ≡ 0 → ⊥) → (a ≡ b → ⊥) → Found
    unfolding part_at part_start
    part_lower z t d = there (ap part z ∙ turn_lower [] part ends k turn a b p q t d) (ap from z ∙ turn_lower 0 from ends k turn a b p q t d)

  pub part_none : (turn % 2 ≡ 0 → ⊥) → a ≡ b → ([] ≡ part_at (stretch starts entries) ends k turn) × (0 ≡ part_start starts entries ends k turn)
  unfolding part_at part_start
  part_none t d = (turn_none [] part ends k turn a b p q t d, turn_none 0 from ends k turn a b p q t d)
