-- Laws of counting: the numbers within bounds, from the back of the list on.
use Prim.Native.Nat.{ℕ, zero, suc, ◌+◌, ◌-◌, ◌≤◌, ◌<◌}
use mathlib.Core.Path.{◌≡◌, refl, sym, ap, subst, ◌∙◌}
use mathlib.Core.Logic.{◌⊎◌, inl, inr, ◌≢◌}
use mathlib.Core.List.{List, [], ◌∷◌, ◌++◌, map}
use mathlib.Core.Bool.{Bool, true, false}
use native.Mathlib.Omega.{arith}
use native.Mathlib.Decide.{dec_lt}
use Rattle.std.specs.Prelude.{MatchBool}
use lib.ListN.{length, length-map, length-set, length-drop, length-append, drop, take, get_or, set}
use lib.Seq.{drop-length, drop-set-lt, take_all, take-take, get_or-take, get_or-append_seam, take-append_seam, get_or-set_same, get_or-set_other}
use borrow.Author.Tests.{lt-ltb, le-ltb, ne_eqb}
use Rattle.lists.proofs.Tests.{dec_eq}
use Rattle.lists.specs.Member.{Mem, elem}
use Rattle.lists.specs.Different.{distinct, different}
use Rattle.lists.proofs.MemberLaws.{elem_true, elem_false, mem_elem, not_mem_elem, mem_get_or, place_of_lem, pigeonhole, below, mem_below, length_below, mem_map, dec_mem, distinct_member, distinct_nodup, different_same, different_new, different_le, different_none}
use Rattle.lists.proofs.PartsLaws.{drop_back, drop_none}
use Rattle.graph.specs.Color.{no_color, days_of, colors_in}
use Rattle.days.proofs.DaysLaws.{color_member, member_color}
use Rattle.days.specs.Within.{within}

elem_there : (k x : ℕ) (xs : List ℕ) → k ≢ x → elem k (x ∷ xs) ≡ elem k xs
unfolding elem
elem_there k x xs n = simp (ne_eqb k x n)

module _ (lo hi : ℕ) where
  within_in : (x : ℕ) (cs : List ℕ) → lo ≤ x → x < hi → within lo hi (x ∷ cs) ≡ x ∷ within lo hi cs
  unfolding within
  within_in x cs a b = simp (le-ltb x lo a, lt-ltb x hi b)

  within_low : (x : ℕ) (cs : List ℕ) → x < lo → within lo hi (x ∷ cs) ≡ within lo hi cs
  unfolding within
  within_low x cs a = simp (lt-ltb x lo a)

  within_high : (x : ℕ) (cs : List ℕ) → lo ≤ x → hi ≤ x → within lo hi (x ∷ cs) ≡ within lo hi cs
  unfolding within
  within_high x cs a b = simp (le-ltb x lo a, le-ltb x hi b)

  within_out : (x : ℕ) (cs : List ℕ) → (x < lo) ⊎ (hi ≤ x) → within lo hi (x ∷ cs) ≡ within lo hi cs
  within_out x cs (inl a) = within_low x cs a
  within_out x cs (inr b) = elim (dec_lt x lo) [ yes a ↦ within_low x cs a | no a ↦ within_high x cs (omega arith) b ]

  -- A number is within or out.
  within_cases : (P : List ℕ → Type 0) (x : ℕ) (cs : List ℕ) → (lo ≤ x → x < hi → P (x ∷ within lo hi cs)) → ((x < lo) ⊎ (hi ≤ x) → P (within lo hi cs)) → P (within lo hi (x ∷ cs))
  within_cases P x cs inside outside = elim (dec_lt x lo) [
    | yes a ↦ rw (within_low x cs a) (outside (inl a))
    | no a ↦ elim (dec_lt x hi) [ yes b ↦ rw (within_in x cs (omega arith) b) (inside (omega arith) b) | no b ↦ rw (within_high x cs (omega arith) (omega arith)) (outside (inr (omega arith))) ]
  ]

  within_member : (cs : List ℕ) (c : ℕ) → Mem c (within lo hi cs) → Mem c cs × (lo ≤ c) × (c < hi)
  unfolding within
  within_member [] c p = absurd p
  within_member (x ∷ cs) c p = within_cases (λ xs. Mem c xs → Mem c (x ∷ cs) × (lo ≤ c) × (c < hi)) x cs
      (λ a b q. elim q [ inl e ↦ (inl e, omega arith, omega arith) | inr r ↦ let s = within_member cs c r in (inr s.0, s.1, s.2) ])
      (λ o q. let s = within_member cs c q in (inr s.0, s.1, s.2)) p

  member_within : (cs : List ℕ) (c : ℕ) → Mem c cs → lo ≤ c → c < hi → Mem c (within lo hi cs)
  member_within [] c x3 a b = elim x3 [ ]
  member_within (x ∷ cs) c (inl e) a b = rw (within_in x cs (omega arith) (omega arith)) (inl e)
  member_within (x ∷ cs) c (inr q) a b = within_cases (λ xs. Mem c xs) x cs (λ s t. inr (member_within cs c q a b)) (λ o. member_within cs c q a b)

  -- No more different numbers than there are within the bounds.
  pub within_bound : (cs : List ℕ) → different (within lo hi cs) ≤ hi - lo
  unfolding different
  within_bound cs =
      let xs = within lo hi cs in
      let all = pigeonhole (distinct xs) (map (λ (i : ℕ). lo + i) (below (hi - lo))) (distinct_nodup xs)
      (λ c p.
      let r = within_member cs c (distinct_member xs c p) in
      let e : lo + (c - lo) ≡ c = omega (arith, r.1) in
      rw e at (mem_map (λ (i : ℕ). lo + i) (c - lo) (below (hi - lo)) (mem_below (hi - lo) (c - lo) (omega (arith, r.1, r.2))))) in
      simp (length-map, length_below) at all

  -- What a list has beside another adds no less.
  within_more : (cs ds : List ℕ) → ((c : ℕ) → Mem c cs → Mem c ds) → different (within lo hi cs) ≤ different (within lo hi ds)
  within_more cs ds more = different_le (within lo hi cs) (within lo hi ds) (λ c p. let r = within_member cs c p in member_within ds c (more c r.0) r.1 r.2)

  within_again : (x : ℕ) (cs : List ℕ) → Mem x cs → different (within lo hi (x ∷ cs)) ≡ different (within lo hi cs)
  within_again x cs q = different_same (within lo hi (x ∷ cs)) (within lo hi cs)
      (λ c p. let r = within_member (x ∷ cs) c p in member_within cs c (elim r.0 [ inl e ↦ rw e q | inr s ↦ s ]) r.1 r.2)
      (λ c p. let r = within_member cs c p in member_within (x ∷ cs) c (inr r.0) r.1 r.2)

  within_new : (x : ℕ) (cs : List ℕ) → lo ≤ x → x < hi → (Mem x cs → ⊥) → different (within lo hi (x ∷ cs)) ≡ suc (different (within lo hi cs))
  within_new x cs a b n = rw (within_in x cs a b) (different_new x (within lo hi cs) (λ p. n (within_member cs x p).0))

-- ---- bounds side by side

-- Nothing between a and b.
within_gap : (a b : ℕ) (cs : List ℕ) → a ≤ b → ((c : ℕ) → Mem c cs → a ≤ c → b ≤ c) → different (within 0 a cs) ≡ different (within 0 b cs)
within_gap a b cs h gap = different_same (within 0 a cs) (within 0 b cs)
    (λ c p. let r = within_member 0 a cs c p in member_within 0 b cs c r.0 (omega arith) (omega (arith, r.2)))
    (λ c p. let r = within_member 0 b cs c p in member_within 0 a cs c r.0 (omega arith) (elim (dec_lt c a) [ yes l ↦ l | no l ↦ absurd (omega (arith, r.2, gap c r.0 (omega arith))) ]))

-- Up to b, and from there on.
within_sum : (b c : ℕ) (cs : List ℕ) → b ≤ c → different (within 0 b cs) + different (within b c cs) ≡ different (within 0 c cs)
unfolding within
within_sum b c [] h = simp different_none
within_sum b c (x ∷ cs) h = elim (dec_mem x cs) [
  | inl q ↦ omega (arith, within_again 0 b x cs q, within_again b c x cs q, within_again 0 c x cs q, within_sum b c cs h)
  | inr n ↦ elim (dec_lt x b) [
    | yes l ↦ omega (arith, within_new 0 b x cs (omega arith) l n, ap different (within_low b c x cs l), within_new 0 c x cs (omega arith) (omega arith) n, within_sum b c cs h)
    | no l ↦ elim (dec_lt x c) [
      | yes k ↦ omega (arith, ap different (within_high 0 b x cs (omega arith) (omega arith)), within_new b c x cs (omega arith) k n, within_new 0 c x cs (omega arith) k n, within_sum b c cs h)
      | no k ↦ omega (arith, ap different (within_high 0 b x cs (omega arith) (omega arith)), ap different (within_high b c x cs (omega arith) (omega arith)), ap different (within_high 0 c x cs (omega arith) (omega arith)), within_sum b c cs h)
    ]
  ]
]

-- Where all colours are below b, these are the days.
pub within_days : (b : ℕ) (cs : List ℕ) → (b ≤ no_color) × ((c : ℕ) → Mem c cs → c ≢ no_color → c < b) → different (within 0 b cs) ≡ days_of cs
unfolding days_of
within_days b cs (small, below) = different_same (within 0 b cs) (colors_in cs)
    (λ c p. let r = within_member 0 b cs c p in member_color cs c r.0 (λ e. omega (arith, r.2)))
    (λ c p. let r = color_member cs c p in member_within 0 b cs c r.0 (omega arith) (below c r.0 r.1))

-- The small ones and the large ones together.
pub parted_days : (split b : ℕ) (cs : List ℕ) → split ≤ no_color → (b ≤ no_color) × ((c : ℕ) → Mem c cs → c ≢ no_color → c < b) → different (within 0 split cs) + different (within split no_color cs) ≡ days_of cs
parted_days split b cs h (small, below) = within_sum split no_color cs h ∙ within_days no_color cs (omega arith, λ c p n. omega (arith, small, below c p n))

-- ---- counting from the back, as the code does

drop_member : (i : ℕ) (cs : List ℕ) (c : ℕ) → Mem c (drop i cs) → Mem c cs
drop_member zero cs c p = p
drop_member (suc i) [] c p = p
drop_member (suc i) (x ∷ cs) c p = inr (drop_member i cs c p)

-- Left to go over are a list's first numbers, and the next one is the last of them.
module _ (colors left rest : List ℕ) (c : ℕ) (front : left ≡ take (length left) colors) (next : left ≡ rest ++ c ∷ []) where
  pub left_some : 0 < length left
  left_some = rw next (omega (arith, length-append rest (c ∷ [])))

  pub rest_length : length rest ≡ length left - 1
  rest_length = rw next (omega (arith, length-append rest (c ∷ [])))

  pub rest_front : rest ≡ take (length rest) colors
  rest_front =
      let shorter : take (length rest) left ≡ rest = rw next (take-append_seam rest (c ∷ [])) in
      let same : take (length rest) (take (length left) colors) ≡ take (length rest) colors = take-take (length rest) (length left) colors (omega (arith, left_some, rest_length)) in
      sym shorter ∙ (ap (take (length rest)) front ∙ same)

  pub next_last : get_or colors (length left - 1) 0 ≡ c
  next_last =
      let here : get_or left (length rest) 0 ≡ c = rw next (get_or-append_seam rest c [] 0) in
      let same : get_or (take (length left) colors) (length rest) 0 ≡ get_or colors (length rest) 0 = get_or-take (length left) colors (length rest) 0 (omega (arith, left_some, rest_length)) in
      ap (λ (i : ℕ). get_or colors i 0) (sym rest_length) ∙ (sym same ∙ (ap (λ (l : List ℕ). get_or l (length rest) 0) (sym front) ∙ here))

pub left_all : (colors : List ℕ) → colors ≡ take (length colors) colors
left_all colors = sym (take_all (length colors) colors (omega arith))

-- The numbers from place i on are counted: the marks say which stand there.
pub record Counted (colors : List ℕ) (from size i days : ℕ) (marks : List Bool) : Type 0 where
  pub inside : i ≤ length colors
  pub sized : length marks ≡ size
  pub counted : days ≡ different (within from (from + size) (drop i colors))
  pub marked : (j : ℕ) → j < size → get_or marks j false ≡ elem (from + j) (drop i colors)

pub counted_start : (colors : List ℕ) (from : ℕ) (marks : List Bool) → ((i : ℕ) → get_or marks i false ≡ false) → Counted colors from (length marks) (length colors) 0 marks
unfolding within
counted_start colors from marks clear = record {
  inside = omega arith;
  sized = refl;
  counted = rw (drop-length colors) (sym different_none);
  marked = λ j h. clear j ∙ sym (not_mem_elem (from + j) (drop (length colors) colors) (rw (drop-length colors) (λ p. p)));
}

module _ {colors : List ℕ} {from size i days : ℕ} {marks : List Bool} (C : Counted colors from size i days marks) where
  -- There are no more days than marks.
  pub counted_bound : days ≤ size
  counted_bound = omega (arith, C.counted, within_bound from (from + size) (drop i colors))

  -- All marks are set: the rest of the list has nothing else.
  pub counted_full : days ≡ length marks → days ≡ different (within from (from + size) colors)
  counted_full e = omega (arith, C.sized, C.counted, within_bound from (from + size) colors, within_more from (from + size) (drop i colors) colors (drop_member i colors))

  pub counted_all : i ≤ 0 → days ≡ different (within from (from + size) colors)
  counted_all = drop_none (λ (l : List ℕ). different (within from (from + size) l)) colors i days C.counted

  module _ (some : 0 < i) where
    at : drop (i - 1) colors ≡ get_or colors (i - 1) 0 ∷ drop i colors
    at = drop_back colors i some C.inside

    -- A number that sets no mark, or one that is set.
    passed : (c : ℕ) → c ≡ get_or colors (i - 1) 0 → ((c < from) ⊎ (from + size ≤ c)) ⊎ Mem c (drop i colors) → Counted colors from size (i - 1) days marks
    passed c e o = record {
      inside = omega (arith, C.inside);
      sized = C.sized;
      counted = C.counted ∙ sym (rw (at, sym e) (elim o [ inl p ↦ ap different (outside p) | inr p ↦ within_again from (from + size) c (drop i colors) p ]));
      marked = λ j h. C.marked j h ∙ sym (rw (at, sym e) (elem_cons j h));
    }
      where
        outside : (c < from) ⊎ (from + size ≤ c) → within from (from + size) (c ∷ drop i colors) ≡ within from (from + size) (drop i colors)
        outside (inl p) = within_low from (from + size) c (drop i colors) p
        outside (inr p) = within_high from (from + size) c (drop i colors) (omega arith) p

        elem_cons : (j : ℕ) → j < size → elem (from + j) (c ∷ drop i colors) ≡ elem (from + j) (drop i colors)
        elem_cons j h = elim (dec_eq (from + j) c) [
          | inl q ↦ elim o [
            | inl p ↦ absurd (elim p [ inl l ↦ omega arith | inr l ↦ omega arith ])
            | inr p ↦ mem_elem (from + j) (c ∷ drop i colors) (inl q) ∙ sym (mem_elem (from + j) (drop i colors) (rw q p))
          ]
          | inr q ↦ elem_there (from + j) c (drop i colors) q
        ]

    pub counted_low : get_or colors (i - 1) 0 < from → Counted colors from size (i - 1) days marks
    counted_low h = passed (get_or colors (i - 1) 0) refl (inl (inl h))

    module _ (h : from ≤ get_or colors (i - 1) 0) where
      pub counted_high : length marks ≤ get_or colors (i - 1) 0 - from → Counted colors from size (i - 1) days marks
      counted_high k = passed (get_or colors (i - 1) 0) refl (inl (inr (omega (arith, C.sized))))

      module _ (k : get_or colors (i - 1) 0 - from < length marks) where
        at_place : from + (get_or colors (i - 1) 0 - from) ≡ get_or colors (i - 1) 0
        at_place = omega arith

        pub counted_again : get_or marks (get_or colors (i - 1) 0 - from) false ≡ true → Counted colors from size (i - 1) days marks
        counted_again t =
            let m = C.marked (get_or colors (i - 1) 0 - from) (omega (arith, C.sized)) in
            passed (get_or colors (i - 1) 0) refl (inr (elem_true _ _ (rw at_place at (sym m ∙ t))))

        pub counted_new : get_or marks (get_or colors (i - 1) 0 - from) false ≡ false → Counted colors from size (i - 1) (days + 1) (set marks (get_or colors (i - 1) 0 - from) true)
        counted_new t = record {
          inside = omega (arith, C.inside);
          sized = length-set marks (get_or colors (i - 1) 0 - from) true ∙ C.sized;
          counted = rw at (omega (arith, C.counted, within_new from (from + size) (get_or colors (i - 1) 0) (drop i colors) h (omega (arith, C.sized)) new));
          marked = λ j b. rw at (marking j b);
        }
          where
            new : Mem (get_or colors (i - 1) 0) (drop i colors) → ⊥
            new = elem_false _ _ (rw at_place at (sym (C.marked (get_or colors (i - 1) 0 - from) (omega (arith, C.sized))) ∙ t))

            marking : (j : ℕ) → j < size → get_or (set marks (get_or colors (i - 1) 0 - from) true) j false ≡ elem (from + j) (get_or colors (i - 1) 0 ∷ drop i colors)
            marking j b = elim (dec_eq j (get_or colors (i - 1) 0 - from)) [
              | inl e ↦ rw e (get_or-set_same marks (get_or colors (i - 1) 0 - from) true false k ∙ sym (mem_elem _ _ (inl at_place)))
              | inr n ↦ get_or-set_other marks (get_or colors (i - 1) 0 - from) j true false n ∙ (C.marked j b ∙ sym (elem_there (from + j) _ (drop i colors) (λ e. n (omega arith))))
            ]

-- ---- counting without marks: a number counts where it stands last

different_again : (x : ℕ) (xs : List ℕ) → Mem x xs → different (x ∷ xs) ≡ different xs
different_again x xs p = different_same (x ∷ xs) xs (λ y q. elim q [ inl e ↦ rw e p | inr r ↦ r ]) (λ y q. inr q)

different_at_most : (xs : List ℕ) → different xs ≤ length xs
unfolding different
different_at_most xs = pigeonhole (distinct xs) xs (distinct_nodup xs) (distinct_member xs)

-- The rest of a list, as a slice has it.
rest_taken : (xs : List ℕ) (size i : ℕ) → length xs ≡ size → take (size - i) (drop i xs) ≡ drop i xs
rest_taken xs size i e = take_all (size - i) (drop i xs) (omega (arith, length-drop i xs))

pub searched_start : (xs : List ℕ) → 0 ≡ different (drop (length xs) xs)
searched_start xs = rw (drop-length xs) (sym different_none)

module _ (xs : List ℕ) (i count : ℕ) (e : count ≡ different (drop i xs)) where
  -- There are no more than places passed.
  pub searched_bound : count ≤ length xs - i
  searched_bound = omega (arith, e, different_at_most (drop i xs), length-drop i xs)

  pub searched_all : i ≤ 0 → count ≡ different xs
  searched_all = drop_none different xs i count e

  module _ (some : 0 < i) (inside : i ≤ length xs) (b : Bool) (t : b ≡ elem (get_or xs (i - 1) 0) (take (length xs - i) (drop i xs))) where
    pub searched_again : b ≡ true → count ≡ different (drop (i - 1) xs)
    searched_again u = rw (drop_back xs i some inside) (e ∙ sym (different_again (get_or xs (i - 1) 0) (drop i xs) (elem_true _ _ (rw (rest_taken xs (length xs) i refl) at (sym t ∙ u)))))

    pub searched_new : b ≡ false → count + 1 ≡ different (drop (i - 1) xs)
    searched_new u = rw (drop_back xs i some inside) (omega (arith, e, different_new (get_or xs (i - 1) 0) (drop i xs) (elem_false _ _ (rw (rest_taken xs (length xs) i refl) at (sym t ∙ u)))))

-- Whether a number stands in a list, told by a search of its places.
pub search_elem : (number : ℕ) (cs : List ℕ) (b : Bool)
    → MatchBool b ((i : ℕ) × (i < length cs) × (get_or cs i 0 ≡ number)) ((i : ℕ) → i < length cs → get_or cs i 0 ≢ number) → b ≡ elem number cs
search_elem number cs true (i, h, e) = sym (mem_elem number cs (rw e at (mem_get_or cs i 0 h)))
search_elem number cs false none = sym (not_mem_elem number cs (λ p. let r = place_of_lem number cs 0 p in none r.0 r.1 r.2))

-- ---- the numbers within bounds, copied out from the back on

-- The numbers passed that are within the bounds stand in the list from `place` on.
pub record Copied (lo hi : ℕ) (colors : List ℕ) (size i place : ℕ) (list : List ℕ) : Type 0 where
  pub inside : i ≤ length colors
  pub sized : length list ≡ size
  pub room : place ≤ size
  pub copied : drop place list ≡ within lo hi (drop i colors)

pub copied_start : (lo hi : ℕ) (colors list : List ℕ) → Copied lo hi colors (length list) (length colors) (length list) list
unfolding within
copied_start lo hi colors list = record { inside = omega arith; sized = refl; room = omega arith; copied = rw (drop-length colors, drop-length list) refl }

module _ {lo hi : ℕ} {colors : List ℕ} {size i place : ℕ} {list : List ℕ} (C : Copied lo hi colors size i place list) where
  pub copied_all : i ≤ 0 → drop place list ≡ within lo hi colors
  copied_all = drop_none (within lo hi) colors i (drop place list) C.copied

  module _ (some : 0 < i) where
    left : within lo hi (get_or colors (i - 1) 0 ∷ drop i colors) ≡ within lo hi (drop i colors) → Copied lo hi colors size (i - 1) place list
    left e = record { inside = omega (arith, C.inside); sized = C.sized; room = C.room; copied = C.copied ∙ sym (rw (drop_back colors i some C.inside) e) }

    pub copied_out : (get_or colors (i - 1) 0 < lo) ⊎ (hi ≤ get_or colors (i - 1) 0) → Copied lo hi colors size (i - 1) place list
    copied_out o = left (within_out lo hi _ (drop i colors) o)

    pub copied_low : get_or colors (i - 1) 0 < lo → Copied lo hi colors size (i - 1) place list
    copied_low a = left (within_low lo hi _ (drop i colors) a)

    module _ (a : lo ≤ get_or colors (i - 1) 0) where
      pub copied_high : hi ≤ get_or colors (i - 1) 0 → Copied lo hi colors size (i - 1) place list
      copied_high b = left (within_high lo hi _ (drop i colors) a b)

      pub copied_in : get_or colors (i - 1) 0 < hi → 0 < place → Copied lo hi colors size (i - 1) (place - 1) (set list (place - 1) (get_or colors (i - 1) 0))
      copied_in b h = record {
        inside = omega (arith, C.inside);
        sized = length-set list (place - 1) (get_or colors (i - 1) 0) ∙ C.sized;
        room = omega (arith, C.room);
        copied = rw (drop_back colors i some C.inside, within_in lo hi x (drop i colors) a b) (drop_back (set list (place - 1) x) place h (omega (arith, length-set list (place - 1) x, C.sized, C.room)) ∙ front);
      }
        where
          x : ℕ
          x = get_or colors (i - 1) 0

          front : get_or (set list (place - 1) x) (place - 1) 0 ∷ drop place (set list (place - 1) x) ≡ x ∷ within lo hi (drop i colors)
          front = rw (get_or-set_same list (place - 1) x 0 (omega (arith, C.sized, C.room)), drop-set-lt place list (place - 1) x (omega arith), C.copied)

-- What a search of the copies counts.
pub copied_counted : (lo hi size place r : ℕ) (colors list : List ℕ) → length list ≡ size → drop place list ≡ within lo hi colors → r ≡ different (take (size - place) (drop place list)) → r ≡ different (within lo hi colors)
copied_counted lo hi size place r colors list e f g = g ∙ ap different (rest_taken list size place e ∙ f)

-- ---- what is said of every number, place by place

pub each_member : (P : ℕ → Type 0) (cs : List ℕ) → ((i : ℕ) → i < length cs → P (get_or cs i 0)) → (c : ℕ) → Mem c cs → P c
each_member P cs each c p = let r = place_of_lem c cs 0 p in subst P r.2 (each r.0 r.1)

-- A window from 0 on has the numbers below its length.
pub window_below : (k r : ℕ) (cs : List ℕ) → r ≡ different (within 0 (0 + k) cs) → r ≡ different (within 0 k cs)
window_below k r cs e = let z : 0 + k ≡ k = omega arith in e ∙ ap (λ (b : ℕ). different (within 0 b cs)) z

-- ---- windows one after the other, each from the next number on

pub window_none : (cs : List ℕ) → 0 ≡ different (within 0 0 cs)
window_none cs = omega (arith, within_bound 0 0 cs)

module _ (cs : List ℕ) (from days : ℕ) (e : days ≡ different (within 0 from cs)) where
  pub window_more : (start length r : ℕ) → from ≤ start → ((c : ℕ) → Mem c cs → from ≤ c → start ≤ c) → r ≡ different (within start (start + length) cs) → days + r ≡ different (within 0 (start + length) cs)
  window_more start length r h next f = omega (arith, e, f, within_gap from start cs h next, within_sum start (start + length) cs (omega arith))

  -- No number is left of those that are asked for.
  pub window_last : (most : ℕ) → from ≤ most → ((c : ℕ) → Mem c cs → from ≤ c → most ≤ c) → days ≡ different (within 0 most cs)
  window_last most h none = e ∙ within_gap from most cs h none
