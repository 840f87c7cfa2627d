-- Parts of a list, and a list copied over another or written into it.
use Rattle.std.specs.Prelude.{ℕ, suc, ◌-◌, List, [], ◌∷◌, ◌++◌, take, drop, length, set}

-- The numbers from place a up to, not including, place e: Rattle's `&l[a..e]`.
abbrev pub part : List ℕ → ℕ → ℕ → List ℕ
part l a e = take (e - a) (drop a l)

-- ---- a copy from the front

-- The front of d with as many numbers of s as both have.
unfoldable pub copied_over : List ℕ → List ℕ → List ℕ
copied_over s d = take (length d) s ++ drop (length s) d

-- ---- numbers written one after another

-- The list with these numbers in it from a place on; one past its end is left out.
unfoldable pub overwrite : List ℕ → ℕ → List ℕ → List ℕ
overwrite l at [] = l
overwrite l at (x ∷ xs) = overwrite (set l at x) (suc at) xs
