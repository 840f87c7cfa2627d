-- How reading a file is reported in numbers.
use Rattle.std.specs.Prelude.{Result, Ok, Err}
use Rattle.graph.specs.Report.{Report, accepted, refused, number}
use Rattle.graph.specs.declared.Refusal.{Refusal}
use Rattle.file_layout.specs.Outcomes.{Summary}
use Rattle.c_answer.specs.declared.file.FileNumbers.{FileNumbers}

-- The node count, the edge count, which tags stood, and tag 4's byte, or 255.
abbrev pub report_of_numbers : Result FileNumbers Refusal → Report Summary
report_of_numbers (Ok file) = accepted (file.nodes, file.edges, file.tags, file.method)
report_of_numbers (Err r) = refused (number r)
