-- The graph checks and then those for loops and double edges.
use Rattle.std.specs.Prelude.{ℕ, List, ◌∷◌, ◌++◌, Bool, not, ltb, leb, length}
use Rattle.graph.specs.Report.{Report}
use Rattle.graph.specs.Check.{◌gives◌, answered, graph_checks}
use Rattle.graph.specs.Edges.{edge_count}
use Rattle.vizing.specs.MisraGries.{simple_checks}

-- The graph checks, 5 if a slice is too short for the incidence table or the caller's own slices are not `sized`, "6 if a loop exists, 7 if a
-- double edge exists": they report n and m.
unfoldable pub check_simple : ℕ → List ℕ → Bool → List ℕ → List ℕ → Report (ℕ × ℕ)
check_simple n ends sized starts entries = answered
    (graph_checks n ends ++ (leb (length starts) n gives 5) ∷ (ltb (length entries) (length ends) gives 5) ∷ (not sized gives 5) ∷ simple_checks ends)
    (n, edge_count ends)
