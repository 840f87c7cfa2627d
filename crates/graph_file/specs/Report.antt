-- How reading a file answers.
use Rattle.std.specs.Prelude.{Result, Ok, Err}
use Rattle.graph.specs.Report.{Report, accepted, refused, number}
use Rattle.graph.specs.declared.Refusal.{Refusal}
use Rattle.file_layout.specs.Outcomes.{Summary}
use Rattle.file_fields.specs.declared.FileSummary.{FileSummary}
use Rattle.file_fields.specs.Method.{method_byte}

-- "Reading gives n and m"; "A reading also reports which tags stood"; the method is tag 4's byte
abbrev pub report_of_file : Result FileSummary Refusal → Report Summary
report_of_file (Ok file) = accepted (file.nodes, file.edges, file.tags, method_byte file.method)
report_of_file (Err r) = refused (number r)
