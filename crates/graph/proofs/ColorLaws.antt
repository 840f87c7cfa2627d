-- Laws of colours: what has a colour, the smallest free colour.
use Prim.Native.Nat.{ℕ, zero, suc, ◌+◌, ◌≤◌, ◌<◌}
use mathlib.Core.List.{List, [], ◌∷◌, ◌++◌, map}
use mathlib.Core.Path.{ap, sym, ◌∙◌, ◌≡◌, refl, subst}
use mathlib.Core.Logic.{inl, inr, ◌≢◌}
use mathlib.Core.Bool.{Bool, true, false, not}
use native.Mathlib.Decide.{dec_lt}
use native.Mathlib.Omega.{arith}
use native.Mathlib.Nat.{not-suc-le-zero}
use lib.ListN.{get_or, length, take, set, replicate, length-map, get_or-replicate, length-replicate, get_or-eq_default}
use lib.Seq.{get_or-take, get_or-set_same, get_or-set_other}
use lib.Dec.{ltb, eqb}
use borrow.Author.Tests.{eq-eqb, ne_eqb, ltb-true, ltb-false, eqb-true, eqb-false, not-true, not-false}
use Rattle.lists.proofs.Tests.{by-test, dec_eq}
use Rattle.lists.specs.Member.{Mem, elem}
use Rattle.lists.proofs.MemberLaws.{elem_true, elem_false, cover_bound, mem_map, map_mem}
use Rattle.graph.specs.Color.{no_color, smallest_from, smallest_free}
use Rattle.graph.specs.Edges.{keep}
use Rattle.graph.specs.Colored.{color_of, is_colored, colored_among, smallest_free_at}

-- What is known of the smallest free colour: nothing else is used of it.
pub record SmallestFree (cs : List ℕ) (c : ℕ) : Type 0 where
  pub free : Mem c cs → ⊥
  pub smaller : (k : ℕ) → k < c → Mem k cs
  pub bound : c ≤ length cs

from_law : (fuel : ℕ) (cs : List ℕ) (c : ℕ) → length cs < fuel + c → ((k : ℕ) → k < c → Mem k cs) → SmallestFree cs (smallest_from fuel cs c)
unfolding smallest_from
from_law zero cs c h used = absurd (omega (arith, cover_bound c cs used))
from_law (suc fuel) cs c h used = go (λ more. from_law fuel cs (suc c) (omega arith) more) (elem c cs) refl
  where
    go : (((k : ℕ) → k < suc c → Mem k cs) → SmallestFree cs (smallest_from fuel cs (suc c))) → (b : Bool) → elem c cs ≡ b → SmallestFree cs (smallest_from (suc fuel) cs c)
    go rec true e = rw (e, smallest_from) (rec (λ k h'. elim (dec_eq k c) [ inl p ↦ rw p (elem_true c cs e) | inr p ↦ used k (omega arith) ]))
    go rec false e = rw (e, smallest_from) (record { free = elem_false c cs e; smaller = used; bound = cover_bound c cs used })

pub smallest_free_lem : (cs : List ℕ) → SmallestFree cs (smallest_free cs)
unfolding smallest_free
smallest_free_lem cs = from_law (suc (length cs)) cs 0 (omega arith) (λ k h. absurd (not-suc-le-zero h))

-- Only one number is the smallest free one.
smallest_unique : (cs : List ℕ) (a b : ℕ) → SmallestFree cs a → SmallestFree cs b → a ≡ b
smallest_unique cs a b p q =
    by-test (ltb a b)
    (λ t. absurd (p.free (q.smaller a (ltb-true a b t))))
    (λ t. by-test (ltb b a) (λ u. absurd (q.free (p.smaller b (ltb-true b a u)))) (λ u. omega (arith, ltb-false a b t, ltb-false b a u)))

-- Laws of colours in a list: stores, who is coloured, and the smallest free colour.

-- ---- colours of places

pub color_outside : (l : List ℕ) (k : ℕ) → length l ≤ k → color_of l k ≡ no_color
unfolding color_of
color_outside l k h = get_or-eq_default l no_color h

pub colored_inside : (l : List ℕ) (k : ℕ) → color_of l k ≢ no_color → k < length l
colored_inside l k n = elim (dec_lt k (length l)) [ yes h ↦ h | no h ↦ absurd (n (color_outside l k (omega arith))) ]

-- A place inside the list, as it is read with any other default.
pub color_read : (l : List ℕ) (k d : ℕ) → k < length l → get_or l k d ≡ color_of l k
unfolding color_of
color_read [] k d h = absurd (not-suc-le-zero h)
color_read (c ∷ l) zero d h = refl
color_read (c ∷ l) (suc k) d h = color_read l k d (omega arith)

pub color_take : (l : List ℕ) (n k : ℕ) → k < n → color_of (take n l) k ≡ color_of l k
unfolding color_of
color_take l n k h = get_or-take n l k no_color h

pub color_set_same : (l : List ℕ) (k c : ℕ) → k < length l → color_of (set l k c) k ≡ c
unfolding color_of
color_set_same l k c h = get_or-set_same l k c no_color h

pub color_set_other : (l : List ℕ) (k c j : ℕ) → j ≢ k → color_of (set l k c) j ≡ color_of l j
unfolding color_of
color_set_other l k c j n = get_or-set_other l k j c no_color n

pub color_replicate : (n k : ℕ) → color_of (replicate n no_color) k ≡ no_color
unfolding color_of
color_replicate n k = elim (dec_lt k n) [ yes h ↦ get_or-replicate n k no_color no_color h | no h ↦ color_outside (replicate n no_color) k (rw (length-replicate n no_color) (omega arith)) ]

-- ---- coloured or not

pub is_colored_true : (l : List ℕ) (k : ℕ) → is_colored l k ≡ true → color_of l k ≢ no_color
unfolding is_colored
is_colored_true l k e = eqb-false (color_of l k) no_color (not-true (eqb (color_of l k) no_color) e)

pub is_colored_false : (l : List ℕ) (k : ℕ) → is_colored l k ≡ false → color_of l k ≡ no_color
unfolding is_colored
is_colored_false l k e = eqb-true (color_of l k) no_color (not-false (eqb (color_of l k) no_color) e)

pub colored_true : (l : List ℕ) (k : ℕ) → color_of l k ≢ no_color → is_colored l k ≡ true
unfolding is_colored
colored_true l k n = ap not (ne_eqb (color_of l k) no_color n)

pub uncolored_false : (l : List ℕ) (k : ℕ) → color_of l k ≡ no_color → is_colored l k ≡ false
unfolding is_colored
uncolored_false l k e = ap not (eq-eqb (color_of l k) no_color e)

-- None of these edges has colour c.
abbrev pub NoneHas : List ℕ → List ℕ → ℕ → Type 0
NoneHas l ks c = (k : ℕ) → Mem k ks → color_of l k ≢ c

-- ---- the coloured ones of a node's edges

pub colored_edge : (l ks : List ℕ) (k : ℕ) → Mem k (colored_among l ks) → Mem k ks × (color_of l k ≢ no_color)
unfolding colored_among
colored_edge l [] k p = elim p [ ]
colored_edge l (j ∷ ks) k p =
    by-test (is_colored l j)
    (λ t. elim (rw (t, colored_among) at p) [
      | inl q ↦ (inl q, rw q (is_colored_true l j t))
      | inr q ↦ let r = colored_edge l ks k q in (inr r.0, r.1)
    ])
    (λ t. let r = colored_edge l ks k (rw (t, colored_among) at p) in (inr r.0, r.1))

pub edge_colored : (l ks : List ℕ) (k : ℕ) → Mem k ks → color_of l k ≢ no_color → Mem k (colored_among l ks)
unfolding colored_among
edge_colored l [] k x'' n = elim x'' [ ]
edge_colored l (j ∷ ks) k (inl p) n = rw (colored_true l j (rw p at n), colored_among) (inl p)
edge_colored l (j ∷ ks) k (inr p) n = by-test (is_colored l j) (λ t. rw (t, colored_among) (inr (edge_colored l ks k p n))) (λ t. rw (t, colored_among) (edge_colored l ks k p n))

pub colored_edges_length : (l ks : List ℕ) → length (colored_among l ks) ≤ length ks
unfolding colored_among
colored_edges_length l [] = omega arith
colored_edges_length l (j ∷ ks) = by-test (is_colored l j) (λ t. rw (t, colored_among) (omega (arith, colored_edges_length l ks))) (λ t. rw (t, colored_among) (omega (arith, colored_edges_length l ks)))

pub colored_edges_append : (l js ks : List ℕ) → colored_among l (js ++ ks) ≡ colored_among l js ++ colored_among l ks
unfolding colored_among
colored_edges_append l [] ks = refl
colored_edges_append l (j ∷ js) ks = rw (colored_edges_append l js ks) (by-test (is_colored l j) (λ t. rw t) (λ t. rw t))

-- An edge without a colour is left out.
pub colored_edges_keep : (l : List ℕ) (b : Bool) (k : ℕ) (ks : List ℕ) → color_of l k ≡ no_color → colored_among l (keep b k ks) ≡ colored_among l ks
unfolding colored_among
colored_edges_keep l true k ks e = rw (uncolored_false l k e)
colored_edges_keep l false k ks e = refl

-- ---- the smallest free colour at a node

module _ (l ks : List ℕ) where
  abbrev law : SmallestFree (map (color_of l) (colored_among l ks)) (smallest_free (map (color_of l) (colored_among l ks)))
  law = smallest_free_lem (map (color_of l) (colored_among l ks))

  -- It is at most the number of the coloured edges.
  pub smallest_free_colored : smallest_free_at l ks ≤ length (colored_among l ks)
  unfolding smallest_free_at
  smallest_free_colored = simp length-map at law.bound

  pub smallest_free_bound : smallest_free_at l ks ≤ length ks
  smallest_free_bound = omega (arith, smallest_free_colored, colored_edges_length l ks)

  -- Each smaller colour stands on one of them.
  pub smaller_stands : (c : ℕ) → c < smallest_free_at l ks → (k : ℕ) × Mem k ks × (color_of l k ≡ c)
  unfolding smallest_free_at
  smaller_stands c h = let r = map_mem (color_of l) c (colored_among l ks) (law.smaller c h) in (r.0, (colored_edge l ks r.0 r.1).0, r.2)

  -- A colour is the smallest free one if none of the edges has it and each smaller colour stands on one of them.
  pub smallest_free_found : (c : ℕ) → c ≤ no_color → NoneHas l ks c → ((b : ℕ) → b < c → (k : ℕ) × Mem k ks × (color_of l k ≡ b)) → smallest_free_at l ks ≡ c
  unfolding smallest_free_at
  smallest_free_found c h free used = smallest_unique colors (smallest_free colors) c law (record { free = none; smaller = smaller; bound = cover_bound c colors smaller })
    where
      colors : List ℕ
      colors = map (color_of l) (colored_among l ks)

      none : Mem c colors → ⊥
      none p = let r = map_mem (color_of l) c (colored_among l ks) p in free r.0 (colored_edge l ks r.0 r.1).0 r.2

      smaller : (b : ℕ) → b < c → Mem b colors
      smaller b less =
          let r = used b less in
          subst (λ (x : ℕ). Mem x colors) r.2 (mem_map (color_of l) r.0 (colored_among l ks) (edge_colored l ks r.0 r.1 (λ e. omega (arith, r.2))))

  module _ (few : length ks < no_color) where
    pub smallest_free_color : smallest_free_at l ks ≢ no_color
    smallest_free_color e = omega (arith, smallest_free_bound)

    pub smallest_none_has : NoneHas l ks (smallest_free_at l ks)
    unfolding smallest_free_at
    smallest_none_has k p e =
        let m = mem_map (color_of l) k (colored_among l ks) (edge_colored l ks k p (λ z. smallest_free_color (sym e ∙ z))) in
        law.free (subst (λ (c : ℕ). Mem c (map (color_of l) (colored_among l ks))) e m)

-- Two lists with the same coloured edges have the same smallest free colour.
pub smallest_free_same : (l js ks : List ℕ) → colored_among l js ≡ colored_among l ks → smallest_free_at l js ≡ smallest_free_at l ks
unfolding smallest_free_at
smallest_free_same l js ks same = ap (λ (is : List ℕ). smallest_free (map (color_of l) is)) same
