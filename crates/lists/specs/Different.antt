-- How many different numbers a list has, and how often one stands in it.
use Rattle.std.specs.Prelude.{ℕ, ◌+◌, cond, List, [], ◌∷◌, eqb, length}
use Rattle.lists.specs.Member.{elem}

-- Each number of the list once.
unfoldable pub distinct : List ℕ → List ℕ
distinct [] = []
distinct (x ∷ xs) = cond (elem x xs) (distinct xs) (x ∷ distinct xs)

-- How many different numbers there are.
unfoldable pub different : List ℕ → ℕ
different xs = length (distinct xs)

-- ---- how often a number stands in a list

unfoldable pub count : ℕ → List ℕ → ℕ
count k [] = 0
count k (x ∷ xs) = cond (eqb k x) 1 0 + count k xs
