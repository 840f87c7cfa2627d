-- The outcomes of reading and of writing a file.
use Rattle.std.specs.Prelude.{ℕ, ◌+◌, ◌*◌, List, [], ◌∷◌, ◌++◌, Bool, true, false, not, ◌&&◌, ◌||◌, cond, length, ltb, eqb}
use Rattle.std.proofs.Math.Option.{Option, none, some}
use Rattle.graph.specs.Report.{Report}
use Rattle.graph.specs.Check.{Check, ◌gives◌, graph_checks, answered, written}
use Rattle.graph.specs.Edges.{edge_count}
use Rattle.graph.specs.Table.{over}
use Rattle.file_layout.specs.File.{File, tag_bit, has_tag, unnamed, graph_file, file_of, file_bytes}

-- ---- reading

-- Whether the bytes have no such layout.
unfoldable pub is_none : Option File → Bool
is_none none = true
is_none (some file) = false

-- The file, or one without edges where there is none.
unfoldable pub or_empty : Option File → File
or_empty none = graph_file 0 []
or_empty (some file) = file

-- What is reported of a file: n, m, the tags and the method.
abbrev pub Summary : Type 0
Summary = ℕ × ℕ × ℕ × ℕ

unfoldable pub summary : File → Summary
summary file = (file.nodes, edge_count file.ends, file.tags, file.method)

-- "10, the bytes don't have the layout above; then 5, the lent list is shorter than 2m"; "and its 5 a colour slice shorter than the colours in the file"
unfoldable pub read_checks : List ℕ → List ℕ → List ℕ → List Check
read_checks bytes ends colors =
    let file = or_empty (file_of bytes) in
    (is_none (file_of bytes) gives 10)
    ∷ (ltb (length ends) (2 * edge_count file.ends) || ltb (length colors) (length file.colors) gives 5)
    ∷ []

-- The report and both lent lists afterwards.
pub record ReadOutcome : Type 0 where
  pub report : Report Summary
  pub ends : List ℕ
  pub colors : List ℕ

-- "Reading gives n and m and copies the ends, numbers beyond 2m being unchanged; it doesn't test them."; "The reader takes these too, and files without them as before"
unfoldable pub read_file : List ℕ → List ℕ → List ℕ → ReadOutcome
read_file bytes ends colors =
    let file = or_empty (file_of bytes) in
    let checks = read_checks bytes ends colors in
    record {
      report = answered checks (summary file);
      ends = written checks ends (over file.ends ends);
      colors = written checks colors (over file.colors colors);
    }

-- ---- writing

-- "The writer is told which of tags 3 and 4 to put.": the file of a call. Colours and method count only where they are told.
unfoldable pub told_file : ℕ → List ℕ → List ℕ → ℕ → ℕ → File
told_file n ends colors tags method = record {
  nodes = n;
  ends = ends;
  colors = cond (has_tag 3 tags) colors [];
  tags = tag_bit 1 + tag_bit 2 + cond (has_tag 3 tags) (tag_bit 3) 0 + cond (has_tag 4 tags) (tag_bit 4) 0;
  method = cond (has_tag 4 tags) method unnamed;
}

-- "The writer makes the graph checks, then gives 10 if tag 4 is told with a way above 3 or without tag 3,
-- then 5 if tag 3 is told and the colours aren't m or the lent output is shorter than the file."
unfoldable pub write_checks : ℕ → List ℕ → List ℕ → ℕ → ℕ → List ℕ → List Check
write_checks n ends colors tags method output =
    graph_checks n ends
    ++ ((has_tag 4 tags && (ltb 3 method || not (has_tag 3 tags)) gives 10)
    ∷ ((has_tag 3 tags && not (eqb (length colors) (edge_count ends))) || ltb (length output) (length (file_bytes (told_file n ends colors tags method))) gives 5)
    ∷ [])

-- The report and the lent output afterwards.
pub record WriteOutcome : Type 0 where
  pub report : Report ℕ
  pub output : List ℕ

-- "a writing its length in bytes; places lent beyond what a call writes are unchanged"
unfoldable pub write_file : ℕ → List ℕ → List ℕ → ℕ → ℕ → List ℕ → WriteOutcome
write_file n ends colors tags method output =
    let bytes = file_bytes (told_file n ends colors tags method) in
    let checks = write_checks n ends colors tags method output in
    record {
      report = answered checks (length bytes);
      output = written checks output (over bytes output);
    }
