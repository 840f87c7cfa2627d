-- Laws of members, and of how many are different.
use Prim.Native.Nat.{ℕ, zero, suc, ◌≤◌, ◌<◌, ◌+◌}
use mathlib.Core.Path.{◌≡◌, refl, sym, ap, subst}
use mathlib.Core.Logic.{◌⊎◌, inl, inr}
use mathlib.Core.List.{List, [], ◌∷◌, ◌++◌, map}
use mathlib.Core.Bool.{true, false, false≢true}
use native.Mathlib.Omega.{arith}
use native.Mathlib.Nat.{not-suc-le-zero}
use lib.ListN.{length, get_or}
use lib.Dec.{eqb}
use borrow.Author.Tests.{eqb-true, eqb-false, eq-eqb, ne_eqb}
use Rattle.lists.proofs.Tests.{by-test, dec_eq, or_true, or_false}
use Rattle.lists.specs.Member.{Mem, Nodup, elem}
use Rattle.lists.specs.Different.{distinct, different, count}

pub elem_true : (k : ℕ) (xs : List ℕ) → elem k xs ≡ true → Mem k xs
unfolding elem
elem_true k [] e = absurd (false≢true e)
elem_true k (x ∷ xs) e = elim (or_true (eqb k x) (elem k xs) e) [ inl p ↦ inl (eqb-true k x p) | inr p ↦ inr (elem_true k xs p) ]

pub elem_false : (k : ℕ) (xs : List ℕ) → elem k xs ≡ false → Mem k xs → ⊥
unfolding elem
elem_false k [] e x'' = elim x'' [ ]
elem_false k (x ∷ xs) e (inl p) = eqb-false k x (or_false (eqb k x) (elem k xs) e).0 p
elem_false k (x ∷ xs) e (inr p) = elem_false k xs (or_false (eqb k x) (elem k xs) e).1 p

pub mem_elem : (k : ℕ) (xs : List ℕ) → Mem k xs → elem k xs ≡ true
mem_elem k xs p = by-test (elem k xs) (λ e. e) (λ e. absurd (elem_false k xs e p))

pub not_mem_elem : (k : ℕ) (xs : List ℕ) → (Mem k xs → ⊥) → elem k xs ≡ false
not_mem_elem k xs n = by-test (elem k xs) (λ e. absurd (n (elem_true k xs e))) (λ e. e)

pub dec_mem : (k : ℕ) (xs : List ℕ) → Mem k xs ⊎ (Mem k xs → ⊥)
dec_mem k xs = by-test (elem k xs) (λ e. inl (elem_true k xs e)) (λ e. inr (elem_false k xs e))

pub mem_append_left : (k : ℕ) (xs ys : List ℕ) → Mem k xs → Mem k (xs ++ ys)
mem_append_left k [] ys x' = elim x' [ ]
mem_append_left k (x ∷ xs) ys (inl p) = inl p
mem_append_left k (x ∷ xs) ys (inr p) = inr (mem_append_left k xs ys p)

pub mem_append_right : (k : ℕ) (xs ys : List ℕ) → Mem k ys → Mem k (xs ++ ys)
mem_append_right k [] ys p = p
mem_append_right k (x ∷ xs) ys p = inr (mem_append_right k xs ys p)

pub mem_append : (k : ℕ) (xs ys : List ℕ) → Mem k (xs ++ ys) → Mem k xs ⊎ Mem k ys
mem_append k [] ys p = inr p
mem_append k (x ∷ xs) ys (inl p) = inl (inl p)
mem_append k (x ∷ xs) ys (inr p) = elim (mem_append k xs ys p) [ inl q ↦ inl (inr q) | inr q ↦ inr q ]

-- Two lists without repeats and with no member in common.
pub nodup_append : (xs ys : List ℕ) → Nodup xs → Nodup ys → ((k : ℕ) → Mem k xs → Mem k ys → ⊥) → Nodup (xs ++ ys)
nodup_append [] ys u w apart = w
nodup_append (x ∷ xs) ys u w apart =
    (λ p. elim (mem_append x xs ys p) [ inl q ↦ u.0 q | inr q ↦ apart x (inl refl) q ], nodup_append xs ys u.1 w (λ k p q. apart k (inr p) q))

-- The number at a place below the length is a member.
pub mem_get_or : (xs : List ℕ) (i d : ℕ) → i < length xs → Mem (get_or xs i d) xs
mem_get_or [] i d h = absurd (not-suc-le-zero h)
mem_get_or (x ∷ xs) zero d h = inl refl
mem_get_or (x ∷ xs) (suc i) d h = inr (mem_get_or xs i d (omega arith))

-- A member stands at some place.
pub place_of_lem : (k : ℕ) (xs : List ℕ) (d : ℕ) → Mem k xs → (i : ℕ) × (i < length xs) × (get_or xs i d ≡ k)
place_of_lem k [] d x' = elim x' [ ]
place_of_lem k (x ∷ xs) d (inl p) = (0, omega arith, sym p)
place_of_lem k (x ∷ xs) d (inr p) = let r = place_of_lem k xs d p in (suc r.0, omega (arith, r.1), r.2)

-- ys without one occurrence of k.
abbrev Erased : ℕ → List ℕ → Type 0
Erased k ys = (zs : List ℕ) × (length ys ≡ suc (length zs)) × ((j : ℕ) → Mem j ys → (j ≡ k) ⊎ Mem j zs)

erased : (k : ℕ) (ys : List ℕ) → Mem k ys → Erased k ys
erased k [] x' = elim x' [ ]
erased k (y ∷ ys) (inl p) = (ys, refl, λ j q. elim q [ inl e ↦ inl (cc) | inr r ↦ inr r ])
erased k (y ∷ ys) (inr p) = go (erased k ys p)
  where
    go : Erased k ys → Erased k (y ∷ ys)
    go (zs, e, f) = (y ∷ zs, ap suc e, h)
      where
        h : (j : ℕ) → Mem j (y ∷ ys) → (j ≡ k) ⊎ Mem j (y ∷ zs)
        h j (inl q) = inr (inl q)
        h j (inr q) = elim (f j q) [ inl r ↦ inl r | inr r ↦ inr (inr r) ]

-- The pigeonhole: a list without repeats is no longer than one that has all its members.
pub pigeonhole : (xs ys : List ℕ) → Nodup xs → ((k : ℕ) → Mem k xs → Mem k ys) → length xs ≤ length ys
pigeonhole [] ys u s = omega arith
pigeonhole (x ∷ xs) ys u s = go (λ zs. pigeonhole xs zs u.1) (erased x ys (s x (inl refl)))
  where
    go : ((zs : List ℕ) → ((k : ℕ) → Mem k xs → Mem k zs) → length xs ≤ length zs) → Erased x ys → length (x ∷ xs) ≤ length ys
    go rec (zs, e, f) = omega (arith, rec zs (λ k p. elim (f k (s k (inr p))) [ inl q ↦ absurd (u.0 (subst (λ (j : ℕ). Mem j xs) q p)) | inr q ↦ q ]))

-- The numbers below n, falling.
unfoldable pub below : ℕ → List ℕ
below zero = []
below (suc n) = n ∷ below n

pub mem_below : (n k : ℕ) → k < n → Mem k (below n)
unfolding below
mem_below zero k h = absurd (not-suc-le-zero h)
mem_below (suc n) k h = elim (dec_eq k n) [ inl p ↦ inl p | inr q ↦ inr (mem_below n k (omega arith)) ]

below_lt : (n k : ℕ) → Mem k (below n) → k < n
unfolding below
below_lt zero k x' = elim x' [ ]
below_lt (suc n) k (inl p) = omega arith
below_lt (suc n) k (inr p) = omega (arith, below_lt n k p)

pub length_below : (n : ℕ) → length (below n) ≡ n
unfolding below
length_below zero = refl
length_below (suc n) = ap suc (length_below n)

nodup_below : (n : ℕ) → Nodup (below n)
unfolding below
nodup_below zero = tt
nodup_below (suc n) = (λ p. omega (arith, below_lt n n p), nodup_below n)

-- Different numbers below n are at most n.
pub nodup_bound : (n : ℕ) (xs : List ℕ) → Nodup xs → ((k : ℕ) → Mem k xs → k < n) → length xs ≤ n
nodup_bound n xs u b = rw length_below at (pigeonhole xs (below n) u (λ k p. mem_below n k (b k p)))

-- A list that has all numbers below n has n places or more.
pub cover_bound : (n : ℕ) (xs : List ℕ) → ((k : ℕ) → k < n → Mem k xs) → n ≤ length xs
cover_bound n xs c = rw length_below at (pigeonhole (below n) xs (nodup_below n) (λ k p. c k (below_lt n k p)))

-- ---- members of a mapped list

pub mem_map : (f : ℕ → ℕ) (k : ℕ) (ks : List ℕ) → Mem k ks → Mem (f k) (map f ks)
mem_map f k [] x' = elim x' [ ]
mem_map f k (j ∷ ks) (inl p) = inl (ap f p)
mem_map f k (j ∷ ks) (inr p) = inr (mem_map f k ks p)

pub map_mem : (f : ℕ → ℕ) (c : ℕ) (ks : List ℕ) → Mem c (map f ks) → (k : ℕ) × Mem k ks × (f k ≡ c)
map_mem f c [] x' = elim x' [ ]
map_mem f c (j ∷ ks) (inl p) = (j, inl refl, sym p)
map_mem f c (j ∷ ks) (inr p) = let r = map_mem f c ks p in (r.0, inr r.1, r.2)

pub map_append : (f : ℕ → ℕ) (js ks : List ℕ) → map f (js ++ ks) ≡ map f js ++ map f ks
map_append f [] ks = refl
map_append f (j ∷ js) ks = ap (λ (l : List ℕ). f j ∷ l) (map_append f js ks)

pub distinct_member : (xs : List ℕ) (k : ℕ) → Mem k (distinct xs) → Mem k xs
unfolding distinct
distinct_member [] k p = elim p [ ]
distinct_member (x ∷ xs) k p = by-test (elem x xs)
    (λ t. inr (distinct_member xs k (rw (t, distinct) at p)))
    (λ t. elim (rw (t, distinct) at p) [ inl q ↦ inl q | inr q ↦ inr (distinct_member xs k q) ])

pub member_distinct : (xs : List ℕ) (k : ℕ) → Mem k xs → Mem k (distinct xs)
unfolding distinct
member_distinct [] k x' = elim x' [ ]
member_distinct (x ∷ xs) k (inl p) = by-test (elem x xs)
    (λ t. rw (t, distinct, p) (member_distinct xs x (elem_true x xs t)))
    (λ t. rw (t, distinct) (inl p))
member_distinct (x ∷ xs) k (inr p) = by-test (elem x xs)
    (λ t. rw (t, distinct) (member_distinct xs k p))
    (λ t. rw (t, distinct) (inr (member_distinct xs k p)))

pub distinct_nodup : (xs : List ℕ) → Nodup (distinct xs)
unfolding distinct
distinct_nodup [] = tt
distinct_nodup (x ∷ xs) = by-test (elem x xs)
    (λ t. rw (t, distinct) (distinct_nodup xs))
    (λ t. rw (t, distinct) (λ p. elem_false x xs t (distinct_member xs x p), distinct_nodup xs))

-- A list without repeats, all of whose members ys has, is no longer than the different numbers of ys.
different_bound : (xs ys : List ℕ) → Nodup xs → ((k : ℕ) → Mem k xs → Mem k ys) → length xs ≤ different ys
unfolding different
different_bound xs ys u s = pigeonhole xs (distinct ys) u (λ k p. member_distinct ys k (s k p))

pub different_le : (xs ys : List ℕ) → ((k : ℕ) → Mem k xs → Mem k ys) → different xs ≤ different ys
unfolding different
different_le xs ys s = different_bound (distinct xs) ys (distinct_nodup xs) (λ k p. s k (distinct_member xs k p))

pub different_same : (xs ys : List ℕ) → ((k : ℕ) → Mem k xs → Mem k ys) → ((k : ℕ) → Mem k ys → Mem k xs) → different xs ≡ different ys
different_same xs ys s t = omega (arith, different_le xs ys s, different_le ys xs t)

pub different_none : different [] ≡ 0
unfolding different distinct
different_none = refl

pub different_new : (x : ℕ) (xs : List ℕ) → (Mem x xs → ⊥) → different (x ∷ xs) ≡ suc (different xs)
unfolding different distinct
different_new x xs n = by-test (elem x xs) (λ t. absurd (n (elem_true x xs t))) (λ t. rw t)

-- ---- how often a number stands in a list

pub count_append : (k : ℕ) (xs ys : List ℕ) → count k (xs ++ ys) ≡ count k xs + count k ys
unfolding count
count_append k [] ys = omega arith
count_append k (x ∷ xs) ys = omega (arith, count_append k xs ys)

pub count_here : (k : ℕ) (xs : List ℕ) → count k (k ∷ xs) ≡ suc (count k xs)
unfolding count
count_here k xs = simp (eq-eqb k k refl) (omega arith)

pub count_there : (k x : ℕ) (xs : List ℕ) → (k ≡ x → ⊥) → count k (x ∷ xs) ≡ count k xs
unfolding count
count_there k x xs n = simp (ne_eqb k x n) (omega arith)

pub count_none : (k : ℕ) (xs : List ℕ) → (Mem k xs → ⊥) → count k xs ≡ 0
unfolding count
count_none k [] n = refl
count_none k (x ∷ xs) n = simp (ne_eqb k x (λ p. n (inl p))) (omega (arith, count_none k xs (λ p. n (inr p))))
