-- Rows of misra_gries_add_edge: what it gives, and each reason to refuse what is stored or lent.
use Rattle.std.specs.Prelude.{true, List, [], ◌∷◌, ◌≡◌, refl}
use Rattle.lists.specs.Member.{elem}
use Rattle.lists.specs.Different.{distinct, different}
use Rattle.lists.specs.Equal.{equal}
use Rattle.lists.specs.Search.{any, all_below, first_place, first_that}
use Rattle.graph.specs.Report.{accepted, refused}
use Rattle.graph.specs.Rows.{Row, same_report, holds, all_hold}
use Rattle.graph.specs.Check.{first_refusal, answered, written, graph_checks}
use Rattle.graph.specs.Edges.{first_end, second_end, is_loop, far_end, second_at, first_edges, second_edges, edges_at, degree}
use Rattle.graph.specs.Color.{colored, colors_in, days_of, smallest_free, smallest_from}
use Rattle.graph.specs.Colored.{color_of, is_colored, colored_among, smallest_free_at}
use Rattle.vizing.specs.MisraGries.{edge_of_color, is_free, store, joins, first_joining, last_of, fan_from, fan_of, path, swap, exchange, first_free_place, rotate, find, step, has_loop, same_ends, has_double_edge}
use Rattle.vizing.specs.Demand3.{max_degree}
use Rattle.vizing.specs.Demand3Examples.{list_p13}
use Rattle.vizing.specs.AddEdge.{has_end, share_end, has_color_above, has_equal_colors, stored_checks, add_edge_checks, stored_list, add_edge}
-- No name of it is used: a wrong step is to be refused at the whole call's rows.
use Rattle.vizing.specs.Answers

unfoldable pub rows : List Row
rows =
    -- P13's list with the colours that its run holds after three edges: P13's answer; sees the step of another edge
    record { outcome = add_edge 4 list_p13 (0 ∷ 1 ∷ 2 ∷ []) (9 ∷ 9 ∷ 9 ∷ 9 ∷ []); report = accepted 3; colors = 2 ∷ 1 ∷ 0 ∷ 2 ∷ [] }
    -- other colours, one of them D = 3: they are kept but for the exchange; sees D over the first three edges, which is 2, and colouring afresh
    ∷ record { outcome = add_edge 4 list_p13 (3 ∷ 1 ∷ 0 ∷ []) (9 ∷ 9 ∷ 9 ∷ 9 ∷ []); report = accepted 4; colors = 3 ∷ 1 ∷ 2 ∷ 0 ∷ [] }
    -- a star of three edges, colour 2 left out: three days; sees the greatest colour plus one
    ∷ record { outcome = add_edge 4 (0 ∷ 1 ∷ 0 ∷ 2 ∷ 0 ∷ 3 ∷ []) (3 ∷ 1 ∷ []) (9 ∷ 9 ∷ 9 ∷ []); report = accepted 3; colors = 3 ∷ 1 ∷ 0 ∷ [] }
    -- the last colour is D + 1: 11
    ∷ record { outcome = add_edge 4 list_p13 (0 ∷ 1 ∷ 4 ∷ []) (9 ∷ 8 ∷ 7 ∷ 6 ∷ []); report = refused 11; colors = 9 ∷ 8 ∷ 7 ∷ 6 ∷ [] }
    -- an edge stored without a colour: 11
    ∷ record { outcome = add_edge 4 list_p13 (65535 ∷ 1 ∷ 2 ∷ []) (9 ∷ 8 ∷ 7 ∷ 6 ∷ []); report = refused 11; colors = 9 ∷ 8 ∷ 7 ∷ 6 ∷ [] }
    -- (1,2) and (0,2) have one colour, at the second end of the later: 11
    ∷ record { outcome = add_edge 4 list_p13 (0 ∷ 1 ∷ 1 ∷ []) (9 ∷ 8 ∷ 7 ∷ 6 ∷ []); report = refused 11; colors = 9 ∷ 8 ∷ 7 ∷ 6 ∷ [] }
    -- (0,1) and (1,2) have one colour, at the first end of the later: 11
    ∷ record { outcome = add_edge 4 list_p13 (0 ∷ 0 ∷ 2 ∷ []) (9 ∷ 8 ∷ 7 ∷ 6 ∷ []); report = refused 11; colors = 9 ∷ 8 ∷ 7 ∷ 6 ∷ [] }
    -- no edges and nothing stored: 0 days; sees one stored colour asked for
    ∷ record { outcome = add_edge 0 [] [] []; report = accepted 0; colors = [] }
    -- as many stored as edges, and two sharing an end have one colour: 5 comes before 11
    ∷ record { outcome = add_edge 3 (0 ∷ 1 ∷ 1 ∷ 2 ∷ []) (0 ∷ 0 ∷ []) (9 ∷ 8 ∷ []); report = refused 5; colors = 9 ∷ 8 ∷ [] }
    -- one place too few is lent, and a loop: 5 comes before 6
    ∷ record { outcome = add_edge 3 (0 ∷ 1 ∷ 2 ∷ 2 ∷ []) (0 ∷ []) (9 ∷ []); report = refused 5; colors = 9 ∷ [] }
    -- (0,1) and (1,2) have one colour, and (2,1) is a double edge: 7 comes before 11
    ∷ record { outcome = add_edge 3 (0 ∷ 1 ∷ 1 ∷ 2 ∷ 2 ∷ 1 ∷ []) (0 ∷ 0 ∷ []) (9 ∷ 8 ∷ 7 ∷ []); report = refused 7; colors = 9 ∷ 8 ∷ 7 ∷ [] }
    ∷ []

pub examples : all_hold rows ≡ true
unfolding all_hold rows holds same_report equal colored days_of colors_in different distinct graph_checks first_refusal answered written all_below elem any first_end second_end is_loop far_end second_at first_edges second_edges edges_at degree smallest_free smallest_from color_of is_colored edge_of_color is_free colored_among smallest_free_at store joins first_joining last_of fan_from fan_of path swap exchange first_place first_that first_free_place rotate find step has_loop same_ends has_double_edge max_degree has_end share_end has_color_above has_equal_colors stored_checks add_edge_checks stored_list add_edge
examples = refl
