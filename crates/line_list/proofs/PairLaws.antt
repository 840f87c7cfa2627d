-- Laws of lists of pairs: the neighbours in such a list, and what appending and the pairs of one list come to.
use Prim.Native.Nat.{ℕ, zero, suc, ◌+◌, ◌*◌}
use mathlib.Core.Bool.{Bool, true, false, not, ◌&&◌}
use mathlib.Core.List.{List, [], ◌∷◌, ◌++◌, map, reverse, append-nil, append_assoc, reverse-cons}
use mathlib.Core.Logic.{inl, inr, ◌≢◌}
use mathlib.Core.Path.{◌≡◌, refl, sym, ap, ◌∙◌}
use native.Mathlib.Omega.{arith}
use lib.Dec.{eqb}
use lib.ListN.{length}
use borrow.Author.Tests.{eq-eqb, ne_eqb, eqb-true}
use Rattle.lists.proofs.Tests.{by-test, dec_eq}
use Rattle.lists.specs.Member.{Mem, Nodup}
use Rattle.lists.proofs.MemberLaws.{map_append}
use Rattle.graph.specs.Edges.{edge_count, first_end, second_end, is_loop, far_end, keep, second_at, first_edges, second_edges, edges_at, neighbors}
use Rattle.graph.proofs.EdgeLaws.{far_first, far_second, first_none, second_at_true, second_none}
use Rattle.line_list.specs.LineList.{pairs_with, pairs_of}
use Rattle.line_list.specs.LineNeighbors.{before_in, after_in}
-- No name of it is used: the rows are to be checked before the laws, so that a wrong definition is refused for what it gives.
use Rattle.line_list.specs.Examples

-- ---- the neighbours, two numbers at a time

-- The second ends of the pairs whose first end is k, newest first.
unfoldable pub first_far : ℕ → List ℕ → List ℕ
first_far k [] = []
first_far k (x ∷ []) = []
first_far k (x ∷ y ∷ l) = first_far k l ++ keep (eqb x k) y []

-- The first ends of the pairs whose second end is k and that are no loops, newest first.
unfoldable pub second_far : ℕ → List ℕ → List ℕ
second_far k [] = []
second_far k (x ∷ []) = []
second_far k (x ∷ y ∷ l) = second_far k l ++ keep (eqb y k && not (eqb x y)) x []

-- The far ends of the first group, and of the second.
abbrev far_firsts : List ℕ → ℕ → ℕ → List ℕ
far_firsts l j k = map (λ (i : ℕ). far_end l i k) (first_edges l j k)

abbrev far_seconds : List ℕ → ℕ → ℕ → List ℕ
far_seconds l j k = map (λ (i : ℕ). far_end l i k) (second_edges l j k)

module _ (x y : ℕ) (l : List ℕ) where
  -- A pair more at the front moves the others on.
  first_moved : (j : ℕ) → first_end (x ∷ y ∷ l) (suc j) ≡ first_end l j
  unfolding first_end
  first_moved j = let e : 2 * suc j ≡ suc (suc (2 * j)) = omega arith in rw e

  second_moved : (j : ℕ) → second_end (x ∷ y ∷ l) (suc j) ≡ second_end l j
  unfolding second_end
  second_moved j = let e : 2 * suc j + 1 ≡ suc (suc (2 * j + 1)) = omega arith in rw e

  first_at_front : first_end (x ∷ y ∷ l) 0 ≡ x
  unfolding first_end
  first_at_front = refl

  second_at_front : second_end (x ∷ y ∷ l) 0 ≡ y
  unfolding second_end
  second_at_front = refl

  far_moved : (j k : ℕ) → far_end (x ∷ y ∷ l) (suc j) k ≡ far_end l j k
  unfolding far_end
  far_moved j k = rw (first_moved j, second_moved j)

  second_at_moved : (j k : ℕ) → second_at (x ∷ y ∷ l) (suc j) k ≡ second_at l j k
  unfolding second_at is_loop
  second_at_moved j k = rw (first_moved j, second_moved j)

  far_keep : (b : Bool) (i k : ℕ) (is r rest : List ℕ) → far_end (x ∷ y ∷ l) (suc i) k ≡ far_end l i k
      → map (λ (i : ℕ). far_end (x ∷ y ∷ l) i k) is ≡ map (λ (i : ℕ). far_end l i k) r ++ rest
      → map (λ (i : ℕ). far_end (x ∷ y ∷ l) i k) (keep b (suc i) is) ≡ map (λ (i : ℕ). far_end l i k) (keep b i r) ++ rest
  far_keep true i k is r rest e f = rw (e, f)
  far_keep false i k is r rest e f = f

  firsts_moved : (j k : ℕ) → far_firsts (x ∷ y ∷ l) (suc j) k ≡ far_firsts l j k ++ keep (eqb x k) y []
  unfolding first_edges
  firsts_moved zero k = by-test (eqb x k)
      (λ t. rw (first_at_front, t, far_first (x ∷ y ∷ l) 0 k (first_at_front ∙ eqb-true x k t), second_at_front))
      (λ t. rw (first_at_front, t))
  firsts_moved (suc j) k =
      rw (first_moved j) (far_keep (eqb (first_end l j) k) j k (first_edges (x ∷ y ∷ l) (suc j) k) (first_edges l j k) (keep (eqb x k) y []) (far_moved j k) (firsts_moved j k))

  at_front : (k : ℕ) → second_at (x ∷ y ∷ l) 0 k ≡ eqb y k && not (eqb x y)
  unfolding second_at is_loop
  at_front k = rw (first_at_front, second_at_front)

  seconds_moved : (j k : ℕ) → far_seconds (x ∷ y ∷ l) (suc j) k ≡ far_seconds l j k ++ keep (eqb y k && not (eqb x y)) x []
  unfolding second_edges
  seconds_moved zero k = by-test (second_at (x ∷ y ∷ l) 0 k)
      (λ t. rw (t, sym (at_front k) ∙ t, far_second (x ∷ y ∷ l) 0 k (second_at_true (x ∷ y ∷ l) 0 k t).0, first_at_front))
      (λ t. rw (t, sym (at_front k) ∙ t))
  seconds_moved (suc j) k =
      rw (second_at_moved j k) (far_keep (second_at l j k) j k (second_edges (x ∷ y ∷ l) (suc j) k) (second_edges l j k) (keep (eqb y k && not (eqb x y)) x []) (far_moved j k) (seconds_moved j k))

pair_count : (x y : ℕ) (l : List ℕ) → edge_count (x ∷ y ∷ l) ≡ suc (edge_count l)
pair_count x y l = omega arith

far_firsts_lem : (k : ℕ) (l : List ℕ) → far_firsts l (edge_count l) k ≡ first_far k l
unfolding first_far
far_firsts_lem k [] = ap (map (λ (i : ℕ). far_end [] i k)) (first_none [] k)
far_firsts_lem k (x ∷ []) = ap (map (λ (i : ℕ). far_end (x ∷ []) i k)) (first_none (x ∷ []) k)
far_firsts_lem k (x ∷ y ∷ l) =
    ap (λ (j : ℕ). far_firsts (x ∷ y ∷ l) j k) (pair_count x y l) ∙ (firsts_moved x y l (edge_count l) k ∙ ap (λ (r : List ℕ). r ++ keep (eqb x k) y []) (far_firsts_lem k l))

far_seconds_lem : (k : ℕ) (l : List ℕ) → far_seconds l (edge_count l) k ≡ second_far k l
unfolding second_far
far_seconds_lem k [] = ap (map (λ (i : ℕ). far_end [] i k)) (second_none [] k)
far_seconds_lem k (x ∷ []) = ap (map (λ (i : ℕ). far_end (x ∷ []) i k)) (second_none (x ∷ []) k)
far_seconds_lem k (x ∷ y ∷ l) =
    ap (λ (j : ℕ). far_seconds (x ∷ y ∷ l) j k) (pair_count x y l)
    ∙ (seconds_moved x y l (edge_count l) k ∙ ap (λ (r : List ℕ). r ++ keep (eqb y k && not (eqb x y)) x []) (far_seconds_lem k l))

pub neighbors_far : (k : ℕ) (l : List ℕ) → neighbors l (edge_count l) k ≡ first_far k l ++ second_far k l
unfolding neighbors edges_at
neighbors_far k l = map_append (λ (i : ℕ). far_end l i k) (first_edges l (edge_count l) k) (second_edges l (edge_count l) k) ∙ (ap (λ (r : List ℕ). r ++ far_seconds l (edge_count l) k) (far_firsts_lem k l) ∙ ap (λ (r : List ℕ). first_far k l ++ r) (far_seconds_lem k l))

-- ---- lists of whole pairs

-- The list has no half pair at its end.
abbrev pub Paired : List ℕ → Type 0
Paired [] = Unit {0}
Paired (x ∷ []) = ⊥
Paired (x ∷ y ∷ l) = Paired l

pub paired_even : (l : List ℕ) → Paired l → length l ≡ 2 * edge_count l
paired_even [] p = omega arith
paired_even (x ∷ []) p = elim p [ ]
paired_even (x ∷ y ∷ l) p = omega (arith, paired_even l p)

pub paired_append : (l r : List ℕ) → Paired l → Paired r → Paired (l ++ r)
paired_append [] r p q = q
paired_append (x ∷ []) r p q = elim p [ ]
paired_append (x ∷ y ∷ l) r p q = paired_append l r p q

paired_with : (k : ℕ) (js : List ℕ) → Paired (pairs_with k js)
unfolding pairs_with
paired_with k [] = tt
paired_with k (j ∷ js) = paired_with k js

pub paired_of : (ks : List ℕ) → Paired (pairs_of ks)
unfolding pairs_of
paired_of [] = tt
paired_of (k ∷ ks) = paired_append (pairs_with k ks) (pairs_of ks) (paired_with k ks) (paired_of ks)

-- Later pairs come first.
pub first_append : (k : ℕ) (l r : List ℕ) → Paired l → first_far k (l ++ r) ≡ first_far k r ++ first_far k l
unfolding first_far
first_append k [] r p = sym (append-nil (first_far k r))
first_append k (x ∷ []) r p = elim p [ ]
first_append k (x ∷ y ∷ l) r p =
    ap (λ (s : List ℕ). s ++ keep (eqb x k) y []) (first_append k l r p) ∙ append_assoc (first_far k r) (first_far k l) (keep (eqb x k) y [])

pub second_append : (k : ℕ) (l r : List ℕ) → Paired l → second_far k (l ++ r) ≡ second_far k r ++ second_far k l
unfolding second_far
second_append k [] r p = sym (append-nil (second_far k r))
second_append k (x ∷ []) r p = elim p [ ]
second_append k (x ∷ y ∷ l) r p =
    ap (λ (s : List ℕ). s ++ keep (eqb y k && not (eqb x y)) x []) (second_append k l r p)
    ∙ append_assoc (second_far k r) (second_far k l) (keep (eqb y k && not (eqb x y)) x [])

-- ---- the pairs of one number with others

first_with : (k : ℕ) (js : List ℕ) → first_far k (pairs_with k js) ≡ reverse js
unfolding first_far pairs_with
first_with k [] = refl
first_with k (j ∷ js) = rw (eq-eqb k k refl, first_with k js) (sym (reverse-cons j js))

first_with_other : (k i : ℕ) (js : List ℕ) → i ≢ k → first_far k (pairs_with i js) ≡ []
unfolding first_far pairs_with
first_with_other k i [] n = refl
first_with_other k i (j ∷ js) n = rw (ne_eqb i k n, first_with_other k i js n)

second_with_none : (k i : ℕ) (js : List ℕ) → (Mem k js → ⊥) → second_far k (pairs_with i js) ≡ []
unfolding second_far pairs_with
second_with_none k i [] n = refl
second_with_none k i (j ∷ js) n = rw (ne_eqb j k (λ e. n (inl (sym e))), second_with_none k i js (λ p. n (inr p)))

second_with : (k i : ℕ) (js : List ℕ) → Nodup js → i ≢ k → Mem k js → second_far k (pairs_with i js) ≡ i ∷ []
unfolding second_far pairs_with
second_with k i [] u n p = elim p [ ]
second_with k i (j ∷ js) u n p = elim (dec_eq j k) [
  | inl e ↦ rw (eq-eqb j k e, ne_eqb i j (λ f. n (f ∙ e)), second_with_none k i js (rw e at u.0))
  | inr d ↦ elim p [
    | inl e ↦ absurd (d (sym e))
    | inr q ↦ rw (ne_eqb j k d, second_with k i js u.1 n q)
  ]
]

-- ---- the pairs of a list

after_here : (k : ℕ) (ks : List ℕ) → after_in k (k ∷ ks) ≡ ks
unfolding after_in
after_here k ks = rw (eq-eqb k k refl)

after_there : (k j : ℕ) (ks : List ℕ) → j ≢ k → after_in k (j ∷ ks) ≡ after_in k ks
unfolding after_in
after_there k j ks n = rw (ne_eqb j k n)

before_here : (k : ℕ) (ks : List ℕ) → before_in k (k ∷ ks) ≡ []
unfolding before_in
before_here k ks = rw (eq-eqb k k refl)

before_there : (k j : ℕ) (ks : List ℕ) → j ≢ k → before_in k (j ∷ ks) ≡ j ∷ before_in k ks
unfolding before_in
before_there k j ks n = rw (ne_eqb j k n)

pub after_none : (k : ℕ) (ks : List ℕ) → (Mem k ks → ⊥) → after_in k ks ≡ []
unfolding after_in
after_none k [] n = refl
after_none k (j ∷ ks) n = rw (ne_eqb j k (λ e. n (inl (sym e)))) (after_none k ks (λ p. n (inr p)))

pub no_firsts : (k : ℕ) → first_far k [] ≡ []
unfolding first_far
no_firsts k = refl

pub no_seconds : (k : ℕ) → second_far k [] ≡ []
unfolding second_far
no_seconds k = refl

-- For a list without repeats the pairs with first end k go to what comes after k.
pub first_of : (k : ℕ) (ks : List ℕ) → Nodup ks → first_far k (pairs_of ks) ≡ reverse (after_in k ks)
unfolding pairs_of
first_of k [] u = no_firsts k ∙ sym (ap reverse (after_none k [] (λ p. p)))
first_of k (j ∷ ks) u =
    first_append k (pairs_with j ks) (pairs_of ks) (paired_with j ks) ∙ elim (dec_eq j k) [
      | inl e ↦ rw (e, after_here k ks, first_of k ks u.1, after_none k ks (rw e at u.0), first_with k ks)
      | inr n ↦ rw (first_with_other k j ks n, after_there k j ks n) (append-nil (first_far k (pairs_of ks)) ∙ first_of k ks u.1)
    ]

pub second_of_none : (k : ℕ) (ks : List ℕ) → (Mem k ks → ⊥) → second_far k (pairs_of ks) ≡ []
unfolding pairs_of
second_of_none k [] n = no_seconds k
second_of_none k (j ∷ ks) n =
    second_append k (pairs_with j ks) (pairs_of ks) (paired_with j ks) ∙ rw (second_with_none k j ks (λ p. n (inr p)), second_of_none k ks (λ p. n (inr p)))

-- Those with second end k come from what stands before k.
pub second_of : (k : ℕ) (ks : List ℕ) → Nodup ks → Mem k ks → second_far k (pairs_of ks) ≡ reverse (before_in k ks)
unfolding pairs_of
second_of k [] u p = elim p [ ]
second_of k (j ∷ ks) u p =
    second_append k (pairs_with j ks) (pairs_of ks) (paired_with j ks) ∙ elim (dec_eq j k) [
      | inl e ↦
          let n : Mem k ks → ⊥ = rw e at u.0 in
          rw (second_of_none k ks n, second_with_none k j ks n, e, before_here k ks)
      | inr n ↦ elim p [
        | inl e ↦ absurd (n (sym e))
        | inr q ↦ rw (second_of k ks u.1 q, second_with k j ks u.1 n q, before_there k j ks n) (sym (reverse-cons j (before_in k ks)))
      ]
    ]

-- ---- what stands before and after a number

pub split_in : (k : ℕ) (ks : List ℕ) → Mem k ks → ks ≡ before_in k ks ++ (k ∷ after_in k ks)
split_in k [] p = elim p [ ]
split_in k (j ∷ ks) p = elim (dec_eq j k) [
  | inl e ↦ rw (e, before_here k ks, after_here k ks)
  | inr n ↦ elim p [
    | inl e ↦ absurd (n (sym e))
    | inr q ↦ rw (before_there k j ks n, after_there k j ks n) (ap (λ (l : List ℕ). j ∷ l) (split_in k ks q))
  ]
]

none_before : (k i : ℕ) → Mem i (before_in k []) → ⊥
unfolding before_in
none_before k i p = p

none_after : (k i : ℕ) → Mem i (after_in k []) → ⊥
unfolding after_in
none_after k i p = p

pub before_member : (k i : ℕ) (ks : List ℕ) → Mem i (before_in k ks) → Mem i ks × (i ≢ k)
before_member k i [] p = absurd (none_before k i p)
before_member k i (j ∷ ks) p = elim (dec_eq j k) [
  | inl e ↦ absurd (rw (e, before_here k ks) at p)
  | inr n ↦ elim (rw (before_there k j ks n) at p) [
    | inl e ↦ (inl e, λ f. n (sym e ∙ f))
    | inr q ↦ let r = before_member k i ks q in (inr r.0, r.1)
  ]
]

pub after_member : (k i : ℕ) (ks : List ℕ) → Nodup ks → Mem i (after_in k ks) → Mem i ks × (i ≢ k)
after_member k i [] u p = absurd (none_after k i p)
after_member k i (j ∷ ks) u p = elim (dec_eq j k) [
  | inl e ↦ let q : Mem i ks = rw (e, after_here k ks) at p in (inr q, λ f. u.0 (rw (f ∙ sym e) at q))
  | inr n ↦ let r = after_member k i ks u.1 (rw (after_there k j ks n) at p) in (inr r.0, r.1)
]
