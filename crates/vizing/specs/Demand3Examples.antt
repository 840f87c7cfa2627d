-- Two lists that demand 3 admits: the triangle, where D + 1 colours are needed, and P13's, where a later edge changes colours given before.
use Rattle.std.specs.Prelude.{ℕ, List, [], ◌∷◌}

-- (0,1),(1,2),(0,2)
abbrev pub triangle : List ℕ
triangle = 0 ∷ 1 ∷ 1 ∷ 2 ∷ 0 ∷ 2 ∷ []

-- The list of P13: (0,1),(1,2),(0,2),(2,3).
abbrev pub list_p13 : List ℕ
list_p13 = 0 ∷ 1 ∷ 1 ∷ 2 ∷ 0 ∷ 2 ∷ 2 ∷ 3 ∷ []
