-- Examples as rows, held against the definition by computation: P1 to P5 of the proof sheet, and a closed walk of even length.
use Rattle.std.specs.Prelude.{true, List, [], ◌∷◌, ◌≡◌, refl}
use Rattle.std.proofs.Math.Bool.{xor}
use Rattle.lists.specs.Member.{elem}
use Rattle.lists.specs.Different.{distinct, different}
use Rattle.lists.specs.Equal.{equal}
use Rattle.lists.specs.Search.{all_below}
use Rattle.lists.specs.Tabulate.{tabulate}
use Rattle.graph.specs.Report.{accepted, refused}
use Rattle.graph.specs.Check.{first_refusal, answered, written, graph_checks}
use Rattle.graph.specs.Edges.{first_end, second_end}
use Rattle.graph.specs.Color.{colored, colors_in, days_of}
use Rattle.graph.specs.Rows.{Row, same_report, holds, all_hold}
use Rattle.two_color.specs.Sides.{lower, gives_way, lowest, odd_side, odd_cycle, side_color, sides}
use Rattle.two_color.specs.TwoColor.{input_checks, two_color}

unfoldable pub rows : List Row
rows =
    -- P1: n 0, no edges: two_color accepted, days 0
    record { outcome = two_color 0 [] []; report = accepted 0; colors = [] }
    -- P2: (0,1),(1,2),(2,3),(3,4): 1,0,1,0,1
    ∷ record { outcome = two_color 5 (0 ∷ 1 ∷ 1 ∷ 2 ∷ 2 ∷ 3 ∷ 3 ∷ 4 ∷ []) (9 ∷ 9 ∷ 9 ∷ 9 ∷ 9 ∷ []); report = accepted 2; colors = 1 ∷ 0 ∷ 1 ∷ 0 ∷ 1 ∷ [] }
    -- P3: (0,1),(1,2),(0,2): 8
    ∷ record { outcome = two_color 3 (0 ∷ 1 ∷ 1 ∷ 2 ∷ 0 ∷ 2 ∷ []) (9 ∷ 8 ∷ 7 ∷ []); report = refused 8; colors = 9 ∷ 8 ∷ 7 ∷ [] }
    -- P4: (0,0): 8
    ∷ record { outcome = two_color 1 (0 ∷ 0 ∷ []) (9 ∷ []); report = refused 8; colors = 9 ∷ [] }
    -- P5: n 3, (1,2): 1,1,0; sees the higher of two nodes taken for the lowest
    ∷ record { outcome = two_color 3 (1 ∷ 2 ∷ []) (9 ∷ 9 ∷ 9 ∷ []); report = accepted 2; colors = 1 ∷ 1 ∷ 0 ∷ [] }
    -- n 3, no edges: 1,1,1, one day (02, Point 4); sees the greatest colour plus one
    ∷ record { outcome = two_color 3 [] (9 ∷ 9 ∷ 9 ∷ []); report = accepted 1; colors = 1 ∷ 1 ∷ 1 ∷ [] }
    -- (0,1),(1,2),(2,3),(3,0): 1,0,1,0; sees 8 said of a closed walk of even length
    ∷ record { outcome = two_color 4 (0 ∷ 1 ∷ 1 ∷ 2 ∷ 2 ∷ 3 ∷ 3 ∷ 0 ∷ []) (9 ∷ 9 ∷ 9 ∷ 9 ∷ []); report = accepted 2; colors = 1 ∷ 0 ∷ 1 ∷ 0 ∷ [] }
    ∷ []

pub examples : all_hold rows ≡ true
unfolding rows all_hold holds same_report equal two_color input_checks graph_checks first_refusal answered written all_below colored days_of colors_in different distinct elem sides tabulate side_color odd_cycle odd_side lowest gives_way lower first_end second_end xor
examples = refl
