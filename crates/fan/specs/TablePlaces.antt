-- The fan's places up to w as the edge table gives them.
use Rattle.std.specs.Prelude.{ℕ, List, [], ◌∷◌, true, false}
use Rattle.graph.specs.Edges.{far_end}
use Rattle.edge_table.specs.EdgeTable.{is_empty}

-- The fan's edges after its first up to the first place whose far end has d free; place 0 has far end x.
unfoldable pub table_places : List ℕ → List ℕ → ℕ → ℕ → ℕ → List ℕ → List ℕ
table_places ends T d u x [] = []
table_places ends T d u x (k ∷ ks) = elim (is_empty T x d) [ true ↦ [] | false ↦ k ∷ table_places ends T d u (far_end ends k u) ks ]
