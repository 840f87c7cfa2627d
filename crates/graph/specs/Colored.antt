-- Colours in a list by number, of nodes or of edges.
use Rattle.std.specs.Prelude.{ℕ, Bool, not, List, [], ◌∷◌, map, eqb, get_or}
use Rattle.graph.specs.Edges.{keep}
use Rattle.graph.specs.Color.{smallest_free, no_color}

-- The colour at place k: that of node k or of edge k. Beyond the list there is none.
unfoldable pub color_of : List ℕ → ℕ → ℕ
color_of l k = get_or l k no_color

unfoldable pub is_colored : List ℕ → ℕ → Bool
is_colored l k = not (eqb (color_of l k) no_color)

-- Those of these nodes, or edges, that are coloured.
unfoldable pub colored_among : List ℕ → List ℕ → List ℕ
colored_among l [] = []
colored_among l (k ∷ ks) = keep (is_colored l k) k (colored_among l ks)

-- "The smallest free colour at a node is the smallest that no coloured edge there has, or, in node colouring, no coloured neighbour."
unfoldable pub smallest_free_at : List ℕ → List ℕ → ℕ
smallest_free_at l ks = smallest_free (map (color_of l) (colored_among l ks))
