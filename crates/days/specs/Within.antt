-- The numbers of a list within bounds.
use Rattle.std.specs.Prelude.{ℕ, List, [], ◌∷◌, not, ◌&&◌, ltb}
use Rattle.graph.specs.Edges.{keep}

-- Those from lo on and below hi.
unfoldable pub within : ℕ → ℕ → List ℕ → List ℕ
within lo hi [] = []
within lo hi (c ∷ cs) = keep (not (ltb c lo) && ltb c hi) c (within lo hi cs)
