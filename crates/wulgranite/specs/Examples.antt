-- The proof sheet: the rows that stand beside each call's definitions, put together, and one fact that holds them all.
use Rattle.std.specs.Prelude.{true, ◌&&◌, List, ◌++◌, ◌≡◌}
use Rattle.lists.proofs.Tests.{true_and}
use Rattle.graph.specs.Rows.{Row, all_hold, rows_append}
use Rattle.two_color.specs.Examples as two-color
use Rattle.line_list.specs.Examples as line-graph
use Rattle.greedy.specs.Examples as greedy
use Rattle.vizing.specs.Answers as misra-gries

-- P1 to P5, P11, P6 to P10 and P12, P13 and P14, with the rows that see what these miss.
abbrev pub rows : List Row
rows = two-color.rows ++ (line-graph.rows ++ (greedy.rows ++ misra-gries.rows))

-- P9's other half, "0,1,0,1 is legal too", stands among the runs.
pub examples : (all_hold rows && greedy.all_as_said greedy.runs) ≡ true
examples =
    true_and _ _
    (rows_append two-color.rows _ two-color.examples (rows_append line-graph.rows _ line-graph.examples (rows_append greedy.rows _ greedy.examples misra-gries.examples)))
    greedy.run_examples
