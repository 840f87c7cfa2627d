-- What the strategies share. Items are numbered from 0, and `nb` gives each item's neighbours in incidence order: for the nodes of a graph
-- `neighbors` of its edge list, for its edges that of the line list.
use Rattle.std.specs.Prelude.{ℕ, zero, suc, not, List, [], ◌++◌, set}
use Rattle.graph.specs.Edges.{keep}
use Rattle.graph.specs.Colored.{is_colored, smallest_free_at}

-- The items below n that have no colour, rising.
unfoldable pub uncolored : List ℕ → ℕ → List ℕ
uncolored colors zero = []
uncolored colors (suc n) = uncolored colors n ++ keep (not (is_colored colors n)) n []

-- Item v "takes the smallest colour that no already coloured neighbour has".
unfoldable pub color_item : (ℕ → List ℕ) → List ℕ → ℕ → List ℕ
color_item nb colors v = set colors v (smallest_free_at colors (nb v))
