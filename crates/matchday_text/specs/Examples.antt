-- Texts worked out: numbers, a refusal, and the paper's whole example.
use Rattle.std.specs.Prelude.{◌≡◌, refl, List, [], ◌∷◌, ◌++◌, ℕ}
use Rattle.graph.specs.Edges.{first_end, second_end}
use Rattle.graph.specs.Colored.{color_of}
use Rattle.file_layout.specs.Fields.{fields_bytes, field_bytes, bytes_of, bytes16}
use Rattle.file_layout.specs.File.{graph_file, file_bytes, file_fields, other_fields, field_if, has_tag, tag_bit}
use Rattle.vizing.specs.Demand3Examples.{list_p13}
use Rattle.matchday_text.specs.Text.{digits, decimal, followed, line, edge_line, edge_lines, days_text, file_text}

pub numbers :
    (decimal 0 ≡ 48 ∷ [])
    × (decimal 9 ≡ 57 ∷ [])
    × (decimal 10 ≡ 49 ∷ 48 ∷ [])
    × (decimal 512 ≡ 53 ∷ 49 ∷ 50 ∷ [])
    × (decimal 65535 ≡ 54 ∷ 53 ∷ 53 ∷ 51 ∷ 53 ∷ [])
unfolding decimal digits
numbers = (refl, refl, refl, refl, refl)

-- "01 02 00 04 00 02 10 00" and so on: the file of P13's list.
abbrev pub example_file : List ℕ
example_file = 1 ∷ 2 ∷ 0 ∷ 4 ∷ 0 ∷ 2 ∷ 16 ∷ 0 ∷ 0 ∷ 0 ∷ 1 ∷ 0 ∷ 1 ∷ 0 ∷ 2 ∷ 0 ∷ 0 ∷ 0 ∷ 2 ∷ 0 ∷ 2 ∷ 0 ∷ 3 ∷ 0 ∷ []

-- "days 3", "0 0 1 2", "1 1 2 1", "2 0 2 0", "3 2 3 2"
abbrev pub example_text : List ℕ
example_text =
    (100 ∷ 97 ∷ 121 ∷ 115 ∷ 32 ∷ 51 ∷ 10 ∷ [])
    ++ (48 ∷ 32 ∷ 48 ∷ 32 ∷ 49 ∷ 32 ∷ 50 ∷ 10 ∷ [])
    ++ (49 ∷ 32 ∷ 49 ∷ 32 ∷ 50 ∷ 32 ∷ 49 ∷ 10 ∷ [])
    ++ (50 ∷ 32 ∷ 48 ∷ 32 ∷ 50 ∷ 32 ∷ 48 ∷ 10 ∷ [])
    ++ (51 ∷ 32 ∷ 50 ∷ 32 ∷ 51 ∷ 32 ∷ 50 ∷ 10 ∷ [])

pub example_file_lem : example_file ≡ file_bytes (graph_file 4 list_p13)
unfolding file_bytes graph_file file_fields other_fields field_if has_tag tag_bit fields_bytes field_bytes bytes_of bytes16
example_file_lem = refl

pub example_lines : days_text 3 list_p13 (2 ∷ 1 ∷ 0 ∷ 2 ∷ []) ≡ example_text
unfolding days_text edge_lines edge_line line followed decimal digits first_end second_end color_of
example_lines = refl

-- The text of the example's file: proved as `example` (ExampleLaws).
abbrev pub ExamplePrinted : Type 0
ExamplePrinted = file_text example_file ≡ example_text

-- "An empty file gives 10." Proved as `empty_file`.
abbrev pub EmptyFileRefused : Type 0
EmptyFileRefused = file_text [] ≡ 114 ∷ 101 ∷ 102 ∷ 117 ∷ 115 ∷ 101 ∷ 100 ∷ 32 ∷ 49 ∷ 48 ∷ 10 ∷ []
