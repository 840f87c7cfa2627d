-- The path of two colours as the edge table gives it.
use Rattle.std.specs.Prelude.{ℕ, zero, suc, List, [], ◌∷◌}
use Rattle.std.proofs.Math.Option.{none, some}
use Rattle.graph.specs.Edges.{far_end}
use Rattle.edge_table.specs.EdgeTable.{table_edge}

-- From v along p, q, p and so on, at most `fuel` edges.
unfoldable pub table_path : List ℕ → List ℕ → ℕ → ℕ → ℕ → ℕ → List ℕ
table_path ends T zero v p q = []
table_path ends T (suc fuel) v p q = elim (table_edge T v p) [ none ↦ [] | some k ↦ k ∷ table_path ends T fuel (far_end ends k v) q p ]
