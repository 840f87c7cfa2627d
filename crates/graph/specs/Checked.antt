-- The report of the graph checks where they hand back the graph itself.
use Rattle.std.specs.Prelude.{ℕ, Result, Ok, Err}
use Rattle.graph.specs.Report.{Report, accepted, refused, number}
use Rattle.graph.specs.Edges.{edge_count}
use Rattle.graph.specs.declared.Refusal.{Refusal}
use Rattle.graph.specs.declared.checked.CheckedGraph.{CheckedGraph}

-- The node count and the edge count, or the number by which the checks refuse.
abbrev pub report_of_graph : Result CheckedGraph Refusal → Report (ℕ × ℕ)
report_of_graph (Ok g) = accepted (g.nodes, edge_count g.ends.now)
report_of_graph (Err r) = refused (number r)
