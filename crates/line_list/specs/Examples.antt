-- The line list worked out: the proof sheet's case and others, as rows that hold by computation.
use Rattle.std.specs.Prelude.{ℕ, true, List, [], ◌∷◌, ◌≡◌, refl}
use Rattle.lists.specs.Equal.{equal}
use Rattle.lists.specs.Search.{all_below}
use Rattle.graph.specs.Report.{accepted, refused}
use Rattle.graph.specs.Check.{first_refusal, answered, written, graph_checks}
use Rattle.graph.specs.Edges.{first_end, second_end, is_loop, second_at, first_edges, second_edges, edges_at}
use Rattle.graph.specs.Color.{Outcome}
use Rattle.graph.specs.Rows.{Row, same_report, holds, all_hold}
use Rattle.line_list.specs.LineList.{pairs_with, pairs_of, line_pairs, line_checks, line_graph}

-- The outcome as that of a row: the list stands where the colours do.
abbrev outcome_of : ℕ → List ℕ → List ℕ → Outcome
outcome_of n ends list = record { report = (line_graph n ends list).report; colors = (line_graph n ends list).list }

-- The edges (0,1),(0,2),(1,2),(0,3).
abbrev list_p11 : List ℕ
list_p11 = 0 ∷ 1 ∷ 0 ∷ 2 ∷ 1 ∷ 2 ∷ 0 ∷ 3 ∷ []

unfoldable pub rows : List Row
rows =
    -- P11: line list of (0,1),(0,2),(1,2),(0,3): (3,1),(3,0),(1,0),(2,0),(2,1); ten lent numbers suffice; sees edges at a node oldest first, or by number
    record { outcome = outcome_of 4 list_p11 (9 ∷ 9 ∷ 9 ∷ 9 ∷ 9 ∷ 9 ∷ 9 ∷ 9 ∷ 9 ∷ 9 ∷ []); report = accepted 5; colors = 3 ∷ 1 ∷ 3 ∷ 0 ∷ 1 ∷ 0 ∷ 2 ∷ 0 ∷ 2 ∷ 1 ∷ [] }
    -- P11: nine give 9
    ∷ record { outcome = outcome_of 4 list_p11 (1 ∷ 2 ∷ 3 ∷ 4 ∷ 5 ∷ 6 ∷ 7 ∷ 8 ∷ 9 ∷ []); report = refused 9; colors = 1 ∷ 2 ∷ 3 ∷ 4 ∷ 5 ∷ 6 ∷ 7 ∷ 8 ∷ 9 ∷ [] }
    -- line list of (0,1),(2,0): (0,1), and what is lent beyond it stays; sees the two incidence groups mixed into one
    ∷ record { outcome = outcome_of 3 (0 ∷ 1 ∷ 2 ∷ 0 ∷ []) (7 ∷ 8 ∷ 9 ∷ []); report = accepted 1; colors = 0 ∷ 1 ∷ 9 ∷ [] }
    -- line list of (0,1),(1,0): (0,1),(1,0): "A double edge yields a pair at each end."
    ∷ record { outcome = outcome_of 2 (0 ∷ 1 ∷ 1 ∷ 0 ∷ []) (9 ∷ 9 ∷ 9 ∷ 9 ∷ []); report = accepted 2; colors = 0 ∷ 1 ∷ 1 ∷ 0 ∷ [] }
    ∷ []

pub examples : all_hold rows ≡ true
unfolding all_hold rows holds same_report equal all_below first_refusal answered written graph_checks first_end second_end is_loop second_at first_edges second_edges edges_at pairs_with pairs_of line_pairs line_checks line_graph
examples = refl
