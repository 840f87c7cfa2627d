-- What is printed, as a list of bytes (ASCII).
use Rattle.std.specs.Prelude.{ℕ, zero, suc, ◌+◌, ◌/◌, ◌%◌, ◌≡◌, true, false, List, [], ◌∷◌, ◌++◌, ltb, length, replicate}
use Rattle.std.proofs.Math.Option.{none, some}
use Rattle.lists.specs.Parts.{copied_over}
use Rattle.graph.specs.Report.{Report, accepted, refused}
use Rattle.graph.specs.Edges.{edge_count, first_end, second_end}
use Rattle.graph.specs.Color.{Outcome, no_color}
use Rattle.graph.specs.Colored.{color_of}
use Rattle.file_layout.specs.File.{File, file_of, LaidOut}
use Rattle.vizing.specs.MisraGries.{misra_gries}

-- The digits of x in base ten, of `fuel` places at most; 48 is the byte of digit 0.
unfoldable pub digits : ℕ → ℕ → List ℕ
digits zero x = []
digits (suc fuel) x = elim (ltb 9 x) [ true ↦ digits fuel (x / 10) ++ ((48 + x % 10) ∷ []) | false ↦ (48 + x) ∷ [] ]

-- "decimal": no leading zero, and 0 for zero. A number x has at most x + 1 digits.
unfoldable pub decimal : ℕ → List ℕ
decimal x = digits (suc x) x

-- A number, and the byte that follows it.
unfoldable pub followed : ℕ → ℕ → List ℕ
followed x byte = decimal x ++ (byte ∷ [])

-- What stands between the numbers of a line, and at its end.
abbrev pub space : ℕ
space = 32

abbrev pub line_feed : ℕ
line_feed = 10

-- "per line: edge, first end, second end, colour, all decimal"
unfoldable pub line : ℕ → ℕ → ℕ → ℕ → List ℕ
line edge first second color = followed edge space ++ followed first space ++ followed second space ++ followed color line_feed

-- The line of edge k.
unfoldable pub edge_line : List ℕ → List ℕ → ℕ → List ℕ
edge_line ends colors k = line k (first_end ends k) (second_end ends k) (color_of colors k)

-- The lines of the first k edges, in their order.
unfoldable pub edge_lines : List ℕ → List ℕ → ℕ → List ℕ
edge_lines ends colors zero = []
edge_lines ends colors (suc k) = edge_lines ends colors k ++ edge_line ends colors k

-- "days " and "refused "
abbrev pub days_word : List ℕ
days_word = 100 ∷ 97 ∷ 121 ∷ 115 ∷ 32 ∷ []

abbrev pub refused_word : List ℕ
refused_word = 114 ∷ 101 ∷ 102 ∷ 117 ∷ 115 ∷ 101 ∷ 100 ∷ 32 ∷ []

-- The days, then a line for each edge.
unfoldable pub days_text : ℕ → List ℕ → List ℕ → List ℕ
days_text days ends colors = days_word ++ followed days line_feed ++ edge_lines ends colors (edge_count ends)

-- "The program prints `refused N`."
unfoldable pub refused_text : ℕ → List ℕ
refused_text number = refused_word ++ followed number line_feed

-- The text of a report and of the colours beside it.
unfoldable pub report_text : List ℕ → Report ℕ → List ℕ → List ℕ
report_text ends (accepted days) colors = days_text days ends colors
report_text ends (refused number) colors = refused_text number

unfoldable pub outcome_text : List ℕ → Outcome → List ℕ
outcome_text ends outcome = report_text ends outcome.report outcome.colors

-- The text of a graph: "runs misra_gries_edge_color", lent a place for each edge.
unfoldable pub colored_text : ℕ → List ℕ → List ℕ
colored_text n ends = outcome_text ends (misra_gries n ends (replicate (edge_count ends) no_color))

-- "reads one file from standard input": bytes without the layout are refused by 10; `matchdays` passes over tags 3 and 4.
unfoldable pub file_text : List ℕ → List ℕ
file_text bytes = elim (file_of bytes) [ none ↦ refused_text 10 | some file ↦ colored_text file.nodes file.ends ]

-- "`matchdays` passes over them": of a file with this graph the text is the graph's, whichever tags stand behind it. `answer` is the whole length, `after` what the slice holds.
pub record PassesOver (bytes before : List ℕ) (answer : ℕ) (after : List ℕ) : Type 0 where
  pub graph_text : (file : File) → LaidOut bytes file → (answer ≡ length (colored_text file.nodes file.ends)) × (after ≡ copied_over (colored_text file.nodes file.ends) before)
