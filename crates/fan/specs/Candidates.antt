-- The candidates of a fan as the code asks of them: by marks of the fan's edges, by the edge table, and from a place before which none may join.
use Rattle.std.specs.Prelude.{ℕ, List, Bool, not, ◌&&◌, get_or, eqb}
use Rattle.graph.specs.Colored.{color_of, is_colored}
use Rattle.edge_table.specs.EdgeTable.{is_empty}

-- Edge k does not have the mark s, and it is coloured in l.
unfoldable pub may_join : List ℕ → List ℕ → ℕ → ℕ → Bool
may_join l M s k = not (eqb (get_or M k 0) s) && is_colored l k

-- Edge k joins the fan whose edges have the mark s and whose last far end is x, by what the table T says.
unfoldable pub joins_marked : List ℕ → List ℕ → List ℕ → ℕ → ℕ → ℕ → Bool
joins_marked l T M s x k = may_join l M s k && is_empty T x (color_of l k)
