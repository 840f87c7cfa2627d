-- The neighbours of an edge in the line list, told from the edges at its two ends.
use Rattle.std.specs.Prelude.{ℕ, cond, List, [], ◌∷◌, ◌++◌, reverse, eqb, ltb}
use Rattle.graph.specs.Edges.{first_end, second_end, is_loop, edges_at}

-- The numbers before k; all of them where k is missing.
unfoldable pub before_in : ℕ → List ℕ → List ℕ
before_in k [] = []
before_in k (j ∷ js) = cond (eqb j k) [] (j ∷ before_in k js)

-- The numbers after k; none where k is missing.
unfoldable pub after_in : ℕ → List ℕ → List ℕ
after_in k [] = []
after_in k (j ∷ js) = cond (eqb j k) js (after_in k js)

-- The edges at v that come after edge k, last first: the second ends of k's pairs at v.
unfoldable pub later_at : List ℕ → ℕ → ℕ → ℕ → List ℕ
later_at ends m k v = reverse (after_in k (edges_at ends m v))

-- The edges at v that come before edge k, last first: the first ends of the pairs at v that end in k.
unfoldable pub earlier_at : List ℕ → ℕ → ℕ → ℕ → List ℕ
earlier_at ends m k v = reverse (before_in k (edges_at ends m v))

-- The higher and the lower end of edge k.
unfoldable pub higher_end : List ℕ → ℕ → ℕ
higher_end ends k = cond (ltb (first_end ends k) (second_end ends k)) (second_end ends k) (first_end ends k)

unfoldable pub lower_end : List ℕ → ℕ → ℕ
lower_end ends k = cond (ltb (first_end ends k) (second_end ends k)) (first_end ends k) (second_end ends k)

-- The neighbours of edge k in the line list, of the first m edges. The pairs of the higher end are the newer ones, so they come first.
unfoldable pub line_neighbors : List ℕ → ℕ → ℕ → List ℕ
line_neighbors ends m k =
    cond (is_loop ends k)
    (later_at ends m k (first_end ends k) ++ earlier_at ends m k (first_end ends k))
    ((later_at ends m k (higher_end ends k) ++ later_at ends m k (lower_end ends k)) ++ (earlier_at ends m k (higher_end ends k) ++ earlier_at ends m k (lower_end ends k)))
