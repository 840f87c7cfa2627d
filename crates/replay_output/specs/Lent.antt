-- What stands in a lent slice before its call, with the laws of a loop that puts it there or looks for it.
use Rattle.std.specs.Prelude.{◌≡◌, List, [], ◌∷◌, ℕ, zero, suc, ◌+◌, ◌%◌, ◌<◌, ◌≤◌, length, set, Some}
use Rattle.std.specs.List.{slice_get}
use Rattle.std.proofs.Common.{refl, ap, ◌∙◌, arith, below_more}

-- what stands at place k of numbers
abbrev pub number_at : ℕ → ℕ
number_at k = 60000 + k % 5000

-- what stands at place k of bytes
abbrev pub byte_at : ℕ → ℕ
byte_at k = 100 + k % 100

-- The first i places of l are as lent, where f says how.
abbrev pub LentTo : {X : Type 0} → (ℕ → X) → ℕ → List X → Type 0
LentTo f i l = (k : ℕ) → k < i → slice_get l k ≡ Some (f k)

abbrev pub Lent : {X : Type 0} → (ℕ → X) → List X → Type 0
Lent f l = LentTo f (length l) l

module _ {X : Type 0} (f : ℕ → X) (l : List X) (i : ℕ) where
  pub lent_more : LentTo f i l → slice_get l i ≡ Some (f i) → LentTo f (i + 1) l
  lent_more = below_more (λ (k : ℕ). slice_get l k ≡ Some (f k)) i

  pub lent_all : LentTo f i l → length l ≤ i → Lent f l
  lent_all h e k b = h k (omega arith)

-- What a store at the next place leaves.
stored_other : {X : Type 0} (l : List X) (i k : ℕ) (x : X) → k < i → slice_get (set l i x) k ≡ slice_get l k
stored_other [] zero k x h = refl
stored_other [] (suc i) k x h = refl
stored_other (y ∷ l) zero k x h = let z : ⊥ = omega arith in absurd z
stored_other (y ∷ l) (suc i) zero x h = refl
stored_other (y ∷ l) (suc i) (suc k) x h = stored_other l i k x (omega arith)

stored_there : {X : Type 0} (l : List X) (i : ℕ) (x : X) → i < length l → slice_get (set l i x) i ≡ Some x
stored_there [] i x h = let z : ⊥ = omega arith in absurd z
stored_there (y ∷ l) zero x h = refl
stored_there (y ∷ l) (suc i) x h = stored_there l i x (omega arith)

module _ {X : Type 0} (f : ℕ → X) (l : List X) (i : ℕ) where
  pub lent_store : (x : X) → LentTo f i l → i < length l → x ≡ f i → LentTo f (i + 1) (set l i x)
  lent_store x h b e =
      below_more (λ (k : ℕ). slice_get (set l i x) k ≡ Some (f k)) i
      (λ k d. stored_other l i k x d ∙ h k d)
      (stored_there l i x b ∙ ap Some e)
