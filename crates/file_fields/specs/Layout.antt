-- What the code's answers say of the bytes.
use Rattle.std.specs.Prelude.{ℕ, ◌+◌, ◌≡◌, List, take, drop, Some, None}
use Rattle.std.specs.Prelude.{Option as Answer}
use Rattle.std.proofs.Math.Option.{Option, none, some, bind}
use Rattle.file_layout.specs.Fields.{Field}
use Rattle.file_layout.specs.File.{File, unnamed}
use Rattle.file_layout.specs.Outcomes.{Summary, summary}
use Rattle.file_fields.specs.declared.fields.FieldPlace.{FieldPlace}
use Rattle.file_fields.specs.declared.FileSummary.{FileSummary}
use Rattle.file_fields.specs.Method.{method_byte}

-- The field at a place, and the bytes behind it.
unfoldable pub field_there : List ℕ → FieldPlace → Field
field_there bytes p = record { tag = p.tag; bytes = take p.length (drop p.start bytes) }

unfoldable pub behind : List ℕ → FieldPlace → List ℕ
behind bytes p = drop (p.start + p.length) bytes

unfoldable pub shown_field : List ℕ → Answer FieldPlace → Option (Field × List ℕ)
shown_field bytes (Some p) = some (field_there bytes p, behind bytes p)
shown_field bytes None = none

-- What is reported of bytes, where they are a file.
unfoldable pub summary_of : Option File → Option Summary
summary_of found = bind found (λ (file : File). some (summary file))

abbrev pub shown_layout : Answer FileSummary → Option Summary
shown_layout (Some s) = some (s.nodes, s.edges, s.tags, method_byte s.method)
shown_layout None = none

-- What the code knows of a file before its end: what has stood of it so far, and no method yet.
abbrev pub SaysSoFar : ℕ → ℕ → ℕ → File → Type 0
SaysSoFar nodes edges tags file = summary file ≡ (nodes, edges, tags, unnamed)
