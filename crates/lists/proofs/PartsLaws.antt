-- Laws of what specs/Parts defines.
use Prim.Native.Nat.{zero, ℕ, suc, min, ◌+◌, ◌-◌, ◌≤◌, ◌<◌}
use mathlib.Core.Path.{refl, ◌≡◌, ap, sym, ◌∙◌}
use mathlib.Core.Logic.{◌⊎◌, inl, inr}
use mathlib.Core.List.{append-nil, List, [], ◌∷◌, ◌++◌}
use native.Mathlib.Numerals.{add-one}
use native.Mathlib.Omega.{arith}
use lib.ListN.{take, drop, set, drop_of_length-le, get_or, replicate, length, length-set}
use lib.Seq.{drop-length, take-length, set_at, take-suc, take_all, append_snoc, drop-cons, drop-set-lt, drop-set-add, take-set-le, get_or-set_same, length-take-le, take-add, drop-drop}
use lib.Dec.{ltb}
use borrow.Author.Tests.{ltb-true, ltb-false}
use Rattle.lists.proofs.Tests.{by-test}
use Rattle.lists.specs.Parts.{part, copied_over, overwrite}

pub part_empty : (l : List ℕ) (a : ℕ) → part l a a ≡ []
part_empty l a = let z : a - a ≡ 0 = omega arith in rw z

-- A store before the part, or behind it, does not change it.
pub part_set_outside : (l : List ℕ) (a e p x : ℕ) → (p < a) ⊎ (e ≤ p) → part (set l p x) a e ≡ part l a e
part_set_outside l a e p x (inl h) = rw (drop-set-lt a l p x h)
part_set_outside l a e p x (inr h) = go (e - a) refl
  where
    go : (n : ℕ) → e - a ≡ n → part (set l p x) a e ≡ part l a e
    go zero z = rw z
    go (suc n) z =
        let q : p ≡ a + (p - a) = omega arith in
        ap (λ (i : ℕ). take (e - a) (drop a (set l i x))) q ∙ ap (take (e - a)) (drop-set-add a l (p - a) x) ∙ take-set-le (e - a) (drop a l) (p - a) x (omega arith)

-- A store right before the part puts the number in front of it.
pub part_set_before : (l : List ℕ) (a e x : ℕ) → suc a ≤ e → a < length l → part (set l a x) a e ≡ x ∷ part l (suc a) e
part_set_before l a e x h b =
    let n : e - a ≡ suc (e - suc a) = omega arith in
    let c = drop-cons (set l a x) a 0 (rw (length-set l a x) b) in
    rw (n, c, get_or-set_same l a x 0 b, drop-set-lt (suc a) l a x (omega arith))

-- Two parts that meet.
pub part_join : (l : List ℕ) (a b c : ℕ) → a ≤ b → b ≤ c → part l a b ++ part l b c ≡ part l a c
part_join l a b c h k =
    let n : c - a ≡ (b - a) + (c - b) = omega arith in
    let p : a + (b - a) ≡ b = omega arith in
    rw (n, take-add (b - a) (c - b) (drop a l), drop-drop (b - a) a l, p)

-- ---- a copy from the front

pub copied_next : (s d c : List ℕ) (i : ℕ) → c ≡ take i s ++ drop i d → i < length s → i < length d → set c i (get_or s i 0) ≡ take (i + 1) s ++ drop (i + 1) d
copied_next s d c i e h k =
    rw (e, add-one i, drop-cons d i 0 k, set_at (take i s) (get_or d i 0) (drop (suc i) d) (get_or s i 0) i (length-take-le i s (omega arith)), take-suc s i 0 h, append_snoc)

pub copied_full : (s d c : List ℕ) (i : ℕ) → c ≡ take i s ++ drop i d → i ≤ length d → length d ≤ i → i < length s → c ≡ copied_over s d
unfolding copied_over
copied_full s d c i e a b h =
    let p : i ≡ length d = omega arith in
    rw (e, p, drop_of_length-le d (let q : length d ≤ length s = omega arith in q), drop-length d)

pub copied_end : (s d c : List ℕ) (i : ℕ) → c ≡ take i s ++ drop i d → i ≤ length s → length s ≤ i → i ≤ length d → c ≡ copied_over s d
unfolding copied_over
copied_end s d c i e a b h =
    let p : i ≡ length s = omega arith in
    rw (e, p, take-length s, take_all (length d) s (omega arith))

-- As many numbers as both have, copied at once.
pub copied_count : (s d c : List ℕ) (k : ℕ) → k ≡ min (length s) (length d) → c ≡ take k s → c ++ drop k d ≡ copied_over s d
copied_count s d c k e h =
    let front = ap (λ (l : List ℕ). l ++ drop k d) h in
    by-test (ltb k (length s))
    (λ t. copied_full s d (c ++ drop k d) k front (omega arith) (let p : k < length s = ltb-true _ _ t in omega arith) (ltb-true _ _ t))
    (λ t. copied_end s d (c ++ drop k d) k front (omega arith) (ltb-false _ _ t) (omega arith))

-- Slices of one length: a copy.
pub copied_same : (s d : List ℕ) → length d ≡ length s → copied_over s d ≡ s
unfolding copied_over
copied_same s d l = rw (take_all (length d) s (omega arith), drop_of_length-le d (let q : length d ≤ length s = omega arith in q)) (append-nil s)

pub take_replicate : (n k x : ℕ) → n ≤ k → take n (replicate k x) ≡ replicate n x
take_replicate zero k x h = refl
take_replicate (suc n) zero x h = let z : ⊥ = omega arith in absurd z
take_replicate (suc n) (suc k) x h = ap (λ (l : List ℕ). x ∷ l) (take_replicate n k x (omega arith))

-- ---- numbers written one after another

pub overwrite_append : (l : List ℕ) (at : ℕ) (s t : List ℕ) → overwrite l at (s ++ t) ≡ overwrite (overwrite l at s) (at + length s) t
unfolding overwrite
overwrite_append l at [] t = let e : at + 0 ≡ at = omega arith in ap (λ (i : ℕ). overwrite l i t) (sym e)
overwrite_append l at (x ∷ s) t =
    let e : suc at + length s ≡ at + suc (length s) = omega arith in
    overwrite_append (set l at x) (suc at) s t ∙ ap (λ (i : ℕ). overwrite (overwrite (set l at x) (suc at) s) i t) e

overwrite_behind : (l : List ℕ) (at y : ℕ) (s : List ℕ) → overwrite (y ∷ l) (suc at) s ≡ y ∷ overwrite l at s
unfolding overwrite
overwrite_behind l at y [] = refl
overwrite_behind l at y (x ∷ s) = overwrite_behind (set l at x) (suc at) y s

overwrite_empty : (at : ℕ) (s : List ℕ) → overwrite [] at s ≡ []
unfolding overwrite
overwrite_empty at [] = refl
overwrite_empty at (x ∷ s) = overwrite_empty (suc at) s

-- From place 0 on they stand at the front, as many as there is room for.
pub overwrite_front : (l s : List ℕ) → overwrite l 0 s ≡ copied_over s l
unfolding overwrite copied_over
overwrite_front [] [] = refl
overwrite_front [] (x ∷ s) = overwrite_empty 1 s
overwrite_front (y ∷ l) [] = refl
overwrite_front (y ∷ l) (x ∷ s) = overwrite_behind l 0 x s ∙ ap (λ (m : List ℕ). x ∷ m) (overwrite_front l s)

-- With room for all of them, what is behind them is unchanged.
pub copied_room : (s d : List ℕ) → length s ≤ length d → copied_over s d ≡ s ++ drop (length s) d
unfolding copied_over
copied_room s d h = rw (take_all (length d) s h)

-- Going through a list from the back: one number more.
pub drop_back : (l : List ℕ) (i : ℕ) → 0 < i → i ≤ length l → drop (i - 1) l ≡ get_or l (i - 1) 0 ∷ drop i l
drop_back l i h k = let e : suc (i - 1) ≡ i = omega arith in drop-cons l (i - 1) 0 (omega arith) ∙ ap (λ (j : ℕ). get_or l (i - 1) 0 ∷ drop j l) e

-- What holds of the list from place k on, at the front, holds of the list.
pub drop_none : {A : Type 0} (F : List ℕ → A) (l : List ℕ) (k : ℕ) (x : A) → x ≡ F (drop k l) → k ≤ 0 → x ≡ F l
drop_none F l k x e h = let z : k ≡ 0 = omega arith in e ∙ ap (λ (j : ℕ). F (drop j l)) z
