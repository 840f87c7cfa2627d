-- The proof sheet's rows of misra_gries_edge_color, with cases that see what they miss, and a tally.
use Rattle.std.specs.Prelude.{true, List, [], ◌∷◌, ◌≡◌, refl}
use Rattle.lists.specs.Member.{elem}
use Rattle.lists.specs.Different.{distinct, different}
use Rattle.lists.specs.Equal.{equal}
use Rattle.lists.specs.Search.{any, all_below, first_place, first_that}
use Rattle.graph.specs.Report.{accepted, refused}
use Rattle.graph.specs.Rows.{Row, same_report, holds, all_hold}
use Rattle.graph.specs.Check.{first_refusal, answered, written, graph_checks}
use Rattle.graph.specs.Edges.{first_end, second_end, is_loop, far_end, second_at, first_edges, second_edges, edges_at}
use Rattle.graph.specs.Color.{colored, colors_in, days_of, smallest_free, smallest_from}
use Rattle.graph.specs.Colored.{color_of, is_colored, colored_among, smallest_free_at}
use Rattle.vizing.specs.MisraGries.{edge_of_color, is_free, store, joins, first_joining, last_of, fan_from, fan_of, path, swap, exchange, first_free_place, rotate, Tally, greatest_color, find, step, step_held, held_after, held, has_loop, same_ends, has_double_edge, misra_gries_checks, misra_gries}

unfoldable pub rows : List Row
rows =
    -- P13: (0,1),(1,2),(0,2),(2,3): 2,1,0,2; sees w one place too far
    record { outcome = misra_gries 4 (0 ∷ 1 ∷ 1 ∷ 2 ∷ 0 ∷ 2 ∷ 2 ∷ 3 ∷ []) (9 ∷ 9 ∷ 9 ∷ 9 ∷ []); report = accepted 3; colors = 2 ∷ 1 ∷ 0 ∷ 2 ∷ [] }
    -- P14: (0,1),(1,0): 7
    ∷ record { outcome = misra_gries 2 (0 ∷ 1 ∷ 1 ∷ 0 ∷ []) (9 ∷ 8 ∷ []); report = refused 7; colors = 9 ∷ 8 ∷ [] }
    -- (0,1),(2,0),(1,3),(0,3): 1,0,0,2; sees w looked for before the exchange, and w always 0
    ∷ record { outcome = misra_gries 4 (0 ∷ 1 ∷ 2 ∷ 0 ∷ 1 ∷ 3 ∷ 0 ∷ 3 ∷ []) (9 ∷ 9 ∷ 9 ∷ 9 ∷ []); report = accepted 3; colors = 1 ∷ 0 ∷ 0 ∷ 2 ∷ [] }
    -- (1,0),(0,2),(2,1),(1,3),(3,0): 1,0,2,0,2; sees the path exchanged edge by edge while asking what is free
    ∷ record { outcome = misra_gries 4 (1 ∷ 0 ∷ 0 ∷ 2 ∷ 2 ∷ 1 ∷ 1 ∷ 3 ∷ 3 ∷ 0 ∷ []) (9 ∷ 9 ∷ 9 ∷ 9 ∷ 9 ∷ []); report = accepted 3; colors = 1 ∷ 0 ∷ 2 ∷ 0 ∷ 2 ∷ [] }
    -- (7,4),(5,6),(7,1),(5,7),(3,6),(6,1): 2,2,1,0,1,0; has a path of three edges
    ∷ record { outcome = misra_gries 8 (7 ∷ 4 ∷ 5 ∷ 6 ∷ 7 ∷ 1 ∷ 5 ∷ 7 ∷ 3 ∷ 6 ∷ 6 ∷ 1 ∷ []) (9 ∷ 9 ∷ 9 ∷ 9 ∷ 9 ∷ 9 ∷ []); report = accepted 3; colors = 2 ∷ 2 ∷ 1 ∷ 0 ∷ 1 ∷ 0 ∷ [] }
    -- a loop and a double edge: 6 comes before 7
    ∷ record { outcome = misra_gries 3 (0 ∷ 1 ∷ 1 ∷ 0 ∷ 2 ∷ 2 ∷ []) (9 ∷ 8 ∷ 7 ∷ []); report = refused 6; colors = 9 ∷ 8 ∷ 7 ∷ [] }
    ∷ []

pub examples : all_hold rows ≡ true
unfolding all_hold rows holds same_report equal colored days_of colors_in different distinct graph_checks first_refusal answered written all_below elem any first_end second_end is_loop far_end second_at first_edges second_edges edges_at smallest_free smallest_from color_of is_colored edge_of_color is_free colored_among smallest_free_at store joins first_joining last_of fan_from fan_of path swap exchange first_place first_that first_free_place rotate greatest_color find step step_held held_after held has_loop same_ends has_double_edge misra_gries_checks misra_gries
examples = refl

-- The tally of P13's run after its last edge: 4 edges coloured, the greatest colour 2.
abbrev tally_p13 : Tally
tally_p13 = (held_after (0 ∷ 1 ∷ 1 ∷ 2 ∷ 0 ∷ 2 ∷ 2 ∷ 3 ∷ []) 4 4 4).tally

pub tally_example : (tally_p13.edges ≡ 4) × (tally_p13.greatest ≡ 2)
unfolding elem first_end second_end is_loop far_end second_at first_edges second_edges edges_at smallest_free smallest_from color_of is_colored edge_of_color is_free colored_among smallest_free_at store joins first_joining last_of fan_from fan_of path swap exchange first_place first_that first_free_place rotate greatest_color find step step_held held_after
tally_example = (refl, refl)
