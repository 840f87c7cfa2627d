-- The colours that the exchange gives to the path and the rotation to the fan.
use Rattle.std.specs.Prelude.{ℕ, List, [], ◌∷◌}
use Rattle.edge_table.specs.EdgeTable.{rotated_colors}

-- The colours that the fan's places take: each that of the next, the last d. Without a place there is none.
unfoldable pub shifted_colors : List ℕ → List ℕ → ℕ → List ℕ
shifted_colors l [] d = []
shifted_colors l (k ∷ ks) d = rotated_colors l ks d
