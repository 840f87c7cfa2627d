-- The line list: edge k becomes node k, and two edges at one node a pair.
use Rattle.std.specs.Prelude.{ℕ, zero, suc, List, [], ◌∷◌, ◌++◌, length, ltb}
use Rattle.graph.specs.Report.{Report}
use Rattle.graph.specs.Check.{Check, ◌gives◌, graph_checks, answered, written}
use Rattle.graph.specs.Edges.{edge_count, edges_at}
use Rattle.graph.specs.Table.{over}

-- The pairs of k with each of these, as ends.
unfoldable pub pairs_with : ℕ → List ℕ → List ℕ
pairs_with k [] = []
pairs_with k (j ∷ js) = k ∷ j ∷ pairs_with k js

-- "for i < j, the pair (i-th, j-th edge at v) is listed"
unfoldable pub pairs_of : List ℕ → List ℕ
pairs_of [] = []
pairs_of (k ∷ ks) = pairs_with k ks ++ pairs_of ks

-- "For nodes v rising": the pairs at the nodes below n, of the first m edges.
unfoldable pub line_pairs : List ℕ → ℕ → ℕ → List ℕ
line_pairs ends m zero = []
line_pairs ends m (suc v) = line_pairs ends m v ++ pairs_of (edges_at ends m v)

-- The line list: the report and the lent list afterwards.
pub record LineOutcome : Type 0 where
  pub report : Report ℕ
  pub list : List ℕ

-- "graph checks, then 9 if the lent list is shorter than 2 times the pair count"
unfoldable pub line_checks : ℕ → List ℕ → List ℕ → List Check
line_checks n ends list = graph_checks n ends ++ (ltb (length list) (length (line_pairs ends (edge_count ends) n)) gives 9) ∷ []

-- "Incidence reports the total; the line list its pair count, numbers beyond 2 times that being unchanged."
unfoldable pub line_graph : ℕ → List ℕ → List ℕ → LineOutcome
line_graph n ends list =
    let pairs = line_pairs ends (edge_count ends) n in
    let checks = line_checks n ends list in
    record { report = answered checks (edge_count pairs); list = written checks list (over pairs list) }
