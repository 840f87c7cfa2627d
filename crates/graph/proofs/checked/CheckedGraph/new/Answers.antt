-- The graph passed, and what the checks report of it is what they report.
use Rattle.std.proofs.Common.{ℕ}
use mathlib.Core.Path.{sym, ap, ◌∙◌}
use Rattle.graph.proofs.CheckLaws.{graph_accepted, passed}
use Rattle.graph.specs.Report.{accepted}
use Rattle.graph.specs.Edges.{edge_count}
use Rattle.graph.proofs.checked.CheckedGraph.new.Goals as goal

pub invariant_of-result : goal.invariant_of-result
invariant_of-result c = record { passed = passed _ _ (graph_accepted _ _ _ _ c.check_graph.ensures.report c.in_ok-check_graph.was).0 }

pub returns-clause-report : goal.returns-clause-report
returns-clause-report c =
    let g = graph_accepted _ _ _ _ c.check_graph.ensures.report c.in_ok-check_graph.was in
    ap (λ (n : ℕ). accepted (n, edge_count c.args.ends.now)) (sym g.1)
    ∙ (ap (λ (m : ℕ). accepted (c.in_ok-check_graph.field-0.nodes, m)) (sym g.2) ∙ c.in_ok-check_graph.ensures.report)
