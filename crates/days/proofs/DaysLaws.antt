-- Laws of `days_of`, how many different colours a list has. No other law opens the definition but `within_days`, which counting ends with, and worked examples.
use Prim.Native.Nat.{ℕ, ◌≤◌, ◌<◌}
use mathlib.Core.Path.{◌≡◌}
use mathlib.Core.Logic.{inl, inr, ◌≢◌}
use mathlib.Core.List.{List, [], ◌∷◌}
use native.Mathlib.Omega.{arith}
use lib.ListN.{length}
use borrow.Author.Tests.{eq-eqb, ne_eqb}
use Rattle.lists.proofs.Tests.{dec_eq}
use Rattle.lists.specs.Member.{Mem, Nodup}
use Rattle.lists.specs.Different.{distinct, different}
use Rattle.lists.proofs.MemberLaws.{pigeonhole, nodup_bound, cover_bound, distinct_member, member_distinct, distinct_nodup}
use Rattle.graph.specs.Color.{no_color, colors_in, days_of}

-- ---- the colours of a list are its members but 65,535

in_uncolored : (x : ℕ) (cs : List ℕ) → x ≡ no_color → colors_in (x ∷ cs) ≡ colors_in cs
unfolding colors_in
in_uncolored x cs e = simp (eq-eqb x no_color e)

in_colored : (x : ℕ) (cs : List ℕ) → x ≢ no_color → colors_in (x ∷ cs) ≡ x ∷ colors_in cs
unfolding colors_in
in_colored x cs n = simp (ne_eqb x no_color n)

pub color_member : (cs : List ℕ) (c : ℕ) → Mem c (colors_in cs) → Mem c cs × (c ≢ no_color)
unfolding colors_in
color_member [] c p = absurd p
color_member (x ∷ cs) c p = elim (dec_eq x no_color) [
  | inl e ↦ let r = color_member cs c (rw (in_uncolored x cs e) at p) in (inr r.0, r.1)
  | inr n ↦ elim (rw (in_colored x cs n) at p) [ inl q ↦ (inl q, rw q n) | inr q ↦ let r = color_member cs c q in (inr r.0, r.1) ]
]

pub member_color : (cs : List ℕ) (c : ℕ) → Mem c cs → c ≢ no_color → Mem c (colors_in cs)
member_color [] c x'' n = elim x'' [ ]
member_color (x ∷ cs) c (inl q) n = rw (in_colored x cs (rw q at n)) (inl q)
member_color (x ∷ cs) c (inr q) n = elim (dec_eq x no_color) [
  | inl e ↦ rw (in_uncolored x cs e) (member_color cs c q n)
  | inr m ↦ rw (in_colored x cs m) (inr (member_color cs c q n))
]

-- ---- the laws

-- Every colour is counted once: the days are the length of any list that has each of the colours once and nothing else.
pub days_once : (cs ds : List ℕ) → Nodup ds → ((c : ℕ) → Mem c ds → Mem c cs × (c ≢ no_color)) → ((c : ℕ) → Mem c cs → c ≢ no_color → Mem c ds) → days_of cs ≡ length ds
unfolding days_of different
days_once cs ds u from to =
    let colors = colors_in cs in
    omega (
      arith,
      pigeonhole (distinct colors) ds (distinct_nodup colors) (λ c p. let r = color_member cs c (distinct_member colors c p) in to c r.0 r.1),
      pigeonhole ds (distinct colors) u (λ c p. let r = from c p in member_distinct colors c (member_color cs c r.0 r.1)),
    )

-- Colours below b make at most b days,
pub days_below : (cs : List ℕ) (b : ℕ) → ((c : ℕ) → Mem c cs → c ≢ no_color → c < b) → days_of cs ≤ b
unfolding days_of different
days_below cs b below = nodup_bound b (distinct (colors_in cs)) (distinct_nodup (colors_in cs)) (λ c p. let r = color_member cs c (distinct_member (colors_in cs) c p) in below c r.0 r.1)

-- and b of them if there is no gap: the greatest plus one.
pub days_gapless : (cs : List ℕ) (b : ℕ) → b ≤ no_color → ((c : ℕ) → Mem c cs → c ≢ no_color → c < b) → ((c : ℕ) → c < b → Mem c cs) → days_of cs ≡ b
unfolding days_of different
days_gapless cs b small below all =
    let some = cover_bound b (distinct (colors_in cs)) (λ c h. member_distinct (colors_in cs) c (member_color cs c (all c h) (λ e. omega arith))) in
    omega (arith, days_below cs b below, some)

-- A list has at most as many days as places.
pub days_at_most : (cs : List ℕ) → days_of cs ≤ length cs
unfolding days_of different
days_at_most cs = pigeonhole (distinct (colors_in cs)) cs (distinct_nodup (colors_in cs)) (λ c p. (color_member cs c (distinct_member (colors_in cs) c p)).0)

-- No colour, no day;
pub days_none : (cs : List ℕ) → ((c : ℕ) → Mem c cs → c ≡ no_color) → days_of cs ≡ 0
days_none cs bare = omega (arith, days_below cs 0 (λ c p n. absurd (n (bare c p))))

-- and where there is no day there is no colour.
pub none_days : (cs : List ℕ) → days_of cs ≡ 0 → (c : ℕ) → Mem c cs → c ≡ no_color
unfolding days_of different
none_days cs e c p = elim (dec_eq c no_color) [
  | inl q ↦ q
  | inr n ↦ absurd (empty (distinct (colors_in cs)) e (member_distinct (colors_in cs) c (member_color cs c p n)))
]
  where
    empty : (xs : List ℕ) → length xs ≡ 0 → Mem c xs → ⊥
    empty [] z q = q
    empty (x ∷ xs) z q = omega (arith, z)
