-- Membership, as a fact and as a test; lists without repeats.
use Rattle.std.specs.Prelude.{ℕ, ◌≡◌, ◌⊎◌, List, [], ◌∷◌, Bool, false, ◌||◌, eqb}

-- k is one of the numbers.
abbrev pub Mem : ℕ → List ℕ → Type 0
Mem k [] = ⊥
Mem k (x ∷ xs) = (k ≡ x) ⊎ Mem k xs

-- No number stands twice.
abbrev pub Nodup : List ℕ → Type 0
Nodup [] = Unit {0}
Nodup (x ∷ xs) = (Mem x xs → ⊥) × Nodup xs

-- Whether k is one of the numbers.
unfoldable pub elem : ℕ → List ℕ → Bool
elem k [] = false
elem k (x ∷ xs) = eqb k x || elem k xs
