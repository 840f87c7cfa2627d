-- Searching: whether every number of a list is below n, the first that passes a test and its place, and whether some number below n passes it.
use Rattle.std.specs.Prelude.{ℕ, zero, suc, List, [], ◌∷◌, Bool, true, false, ◌&&◌, ◌||◌, cond, ltb}
use Rattle.std.proofs.Math.Option.{Option, none, some}

-- Whether each number is below n.
unfoldable pub all_below : ℕ → List ℕ → Bool
all_below n [] = true
all_below n (x ∷ xs) = ltb x n && all_below n xs

-- The first place whose number passes the test: how many stand before it, all if none passes.
unfoldable pub first_place : (ℕ → Bool) → List ℕ → ℕ
first_place t [] = 0
first_place t (x ∷ xs) = cond (t x) 0 (suc (first_place t xs))

-- The first of these numbers that passes the test.
unfoldable pub first_that : (ℕ → Bool) → List ℕ → Option ℕ
first_that t [] = none
first_that t (x ∷ xs) = elim (t x) [ true ↦ some x | false ↦ first_that t xs ]

-- Whether some number below n passes the test.
unfoldable pub any : (ℕ → Bool) → ℕ → Bool
any t zero = false
any t (suc n) = t n || any t n
