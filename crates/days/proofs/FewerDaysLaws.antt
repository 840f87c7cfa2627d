-- Laws of the choice between two lists.
use Prim.Native.Nat.{ℕ, ◌≤◌, ◌<◌}
use mathlib.Core.Path.{◌≡◌, refl, sym, ap, ◌∙◌}
use mathlib.Core.Logic.{◌⊎◌, inl, inr}
use mathlib.Core.List.{List, []}
use mathlib.Core.Bool.{Bool, true, false, not, ◌||◌, cond}
use native.Mathlib.Omega.{arith}
use lib.ListN.{length, take}
use lib.Dec.{ltb}
use borrow.Author.Tests.{lt-ltb, le-ltb, ltb-true, ltb-false, not-true}
use Rattle.lists.specs.Member.{elem}
use Rattle.lists.proofs.Tests.{by-test, and_true, or_true, or_false}
use Rattle.lists.proofs.MemberLaws.{elem_true, elem_false, not_mem_elem}
use Rattle.graph.specs.Color.{no_color, days_of}
use Rattle.days.proofs.DaysLaws.{days_none}
use Rattle.days.specs.declared.LeadingPart.{LeadingPart}
use Rattle.days.specs.FewerDays.{second_chosen, fewer_days, AllColored, FewestDays}

-- ---- which list

module _ (first second : List ℕ) (b : Bool) (e : b ≡ elem no_color second) where
  pub second_none : b ≡ true → false ≡ second_chosen first second
  unfolding second_chosen
  second_none t = simp (sym e ∙ t)

  module _ (f : b ≡ false) (a : Bool) (d : a ≡ elem no_color first) where
    pub first_none : a ≡ true → a ≡ second_chosen first second
    unfolding second_chosen
    first_none t = simp (sym e ∙ f, sym d ∙ t) t

    pub by_days : a ≡ false → (x y : ℕ) → x ≡ days_of second → y ≡ days_of first → ltb x y ≡ second_chosen first second
    unfolding second_chosen
    by_days t x y p q = rw (p, q) (simp (sym e ∙ f, sym d ∙ t))

-- Of nothing the first is chosen.
chosen_empty : second_chosen [] [] ≡ false
unfolding second_chosen elem
chosen_empty = simp (days_none [] (λ c p. absurd p))

-- ---- how long the part is

module _ (first second : List ℕ) (m : ℕ) where
  pub part_short : length first < m → record { second = false; length = 0 } ≡ fewer_days first second m
  unfolding fewer_days
  part_short h = simp (lt-ltb (length first) m h)

  module _ (k : m ≤ length first) where
    pub part_short_second : length second < m → record { second = false; length = 0 } ≡ fewer_days first second m
    unfolding fewer_days
    part_short_second h = simp (le-ltb (length first) m k, lt-ltb (length second) m h)

    pub part_chosen : m ≤ length second → (b : Bool) → b ≡ second_chosen (take m first) (take m second) → record { second = b; length = m } ≡ fewer_days first second m
    unfolding fewer_days
    part_chosen h b e = rw e (simp (le-ltb (length first) m k, le-ltb (length second) m h))

  -- It stands in both lists.
  part_inside : ((fewer_days first second m).length ≤ length first) × ((fewer_days first second m).length ≤ length second)
  unfolding fewer_days
  part_inside = by-test (ltb (length first) m)
      (λ t. simp t (omega arith, omega arith))
      (λ t. by-test (ltb (length second) m) (λ u. simp (t, u) (omega arith, omega arith)) (λ u. simp (t, u) (ltb-false (length first) m t, ltb-false (length second) m u)))

  -- An empty part is of the first list.
  pub part_empty : (fewer_days first second m).length ≡ 0 → (fewer_days first second m).second ≡ false
  unfolding fewer_days
  part_empty = by-test (ltb (length first) m)
      (λ t. simp t (λ z. refl))
      (λ t. by-test (ltb (length second) m) (λ u. simp (t, u) (λ z. refl)) (λ u. simp (t, u) (λ z. rw z chosen_empty)))

-- The numbers of the part, as it is cut off.
module _ (first second : List ℕ) (m : ℕ) (part : LeadingPart) (e : part ≡ fewer_days first second m) where
  abbrev Contents : List ℕ → Type 0
  Contents handed = handed ≡ take (fewer_days first second m).length (cond (fewer_days first second m).second second first)

  pub cut_inside : (part.length ≤ length first) × (part.length ≤ length second)
  cut_inside = rw e (part_inside first second m)

  pub cut_second : part.second ≡ true → Contents (take part.length second)
  cut_second t = rw (sym e) (simp t)

  pub cut_first : part.second ≡ false → Contents (take part.length first)
  cut_first t = rw (sym e) (simp t)

-- ---- what the page grid gets

-- Whichever list is chosen.
chosen_cases : (first second : List ℕ) (P : List ℕ → Type 0) → (second_chosen first second ≡ true → P second) → (second_chosen first second ≡ false → P first) → P (cond (second_chosen first second) second first)
chosen_cases first second P chosen left = by-test (second_chosen first second) (λ t. simp t (chosen t)) (λ t. simp t (left t))

-- The second is chosen where all its places have a colour, and the first has a place without or more days.
chosen_second : (first second : List ℕ) → second_chosen first second ≡ true → AllColored second × (AllColored first → days_of second ≤ days_of first)
unfolding second_chosen
chosen_second first second t =
    let r = and_true (not (elem no_color second)) (elem no_color first || ltb (days_of second) (days_of first)) t in (
      elem_false no_color second (not-true (elem no_color second) r.0),
      λ colored. elim (or_true (elem no_color first) (ltb (days_of second) (days_of first)) r.1) [
        | inl e ↦ absurd (colored (elem_true no_color first e))
        | inr e ↦ omega (arith, ltb-true (days_of second) (days_of first) e)
      ],
    )

-- The first is chosen where it has no more days, or the second has a place without a colour.
chosen_first : (first second : List ℕ) → second_chosen first second ≡ false → AllColored second → AllColored first × (days_of first ≤ days_of second)
unfolding second_chosen
chosen_first first second t colored =
    let e = not_mem_elem no_color second colored in
    let r = or_false (elem no_color first) (ltb (days_of second) (days_of first)) (rw e at t) in
    (elem_false no_color first r.0, ltb-false (days_of second) (days_of first) r.1)

module _ (first second handed : List ℕ) (m : ℕ) (e : handed ≡ take (fewer_days first second m).length (cond (fewer_days first second m).second second first)) where
  abbrev a : List ℕ
  a = take m first

  abbrev b : List ℕ
  b = take m second

  module _ (h : m ≤ length first) (k : m ≤ length second) where
    handed_chosen : handed ≡ cond (second_chosen a b) b a
    handed_chosen =
        let p = part_chosen first second m h k (second_chosen a b) refl in
        e ∙ (ap (λ (part : LeadingPart). take part.length (cond part.second second first)) (sym p) ∙ by-test (second_chosen a b) (λ t. simp t) (λ t. simp t))

    handed_leading : (handed ≡ a) ⊎ (handed ≡ b)
    handed_leading = rw handed_chosen (chosen_cases a b (λ x. (x ≡ a) ⊎ (x ≡ b)) (λ t. inr refl) (λ t. inl refl))

    handed_fewest : AllColored a → AllColored b → (days_of handed ≤ days_of a) × (days_of handed ≤ days_of b)
    handed_fewest p q = rw handed_chosen (chosen_cases a b (λ x. (days_of x ≤ days_of a) × (days_of x ≤ days_of b)) (λ t. ((chosen_second a b t).1 p, omega arith)) (λ t. (omega arith, (chosen_first a b t q).1)))

    handed_colored : AllColored a ⊎ AllColored b → AllColored handed
    handed_colored o = rw handed_chosen (chosen_cases a b AllColored (λ t. (chosen_second a b t).0) (λ t. elim o [ inl p ↦ p | inr q ↦ (chosen_first a b t q).0 ]))

  pub fewest_days : FewestDays first second m handed
  fewest_days = record { leading = handed_leading; fewest = handed_fewest; colored = handed_colored }
