-- `check_simple` meets its contract: each answer's tests say which check refuses, or that none does.
use Rattle.std.proofs.Common.{rules, arith}
use mathlib.Core.Logic.{inl, inr}
use Rattle.std.proofs.lemmas.Result.{err_from_is_err_and}
use Rattle.graph.proofs.CheckLaws.{passed, graph_accepted}
use Rattle.simple_graph.proofs.SimpleLaws.{graph_no, length_no, loop_no, double_no, simple_yes}
use Rattle.simple_graph.proofs.check_simple.Goals as goal

pub returns-in_err-graph-clause-report : goal.returns-in_err-graph-clause-report
returns-in_err-graph-clause-report c =
    let p = err_from_is_err_and c.from_residual.result c.from_residual.ensures.1 in
    rw (p.1, p.2) (graph_no _ _ _ _ _ _ _ c.check_graph.ensures.report c.in_err-graph.was)

pub returns-then-starts-n-clause-report : goal.returns-then-starts-n-clause-report
returns-then-starts-n-clause-report c =
    let g = graph_accepted _ _ _ _ c.check_graph.ensures.report c.in_ok-graph.was in
    length_no _ _ _ _ _ g.0 (elim c.then-starts-n.either [ inl h ↦ inl (omega arith) | inr v ↦ inr (elim v [ inl h ↦ inl (omega arith) | inr h ↦ inr h.2 ]) ])

pub returns-then-has_loop-clause-report : goal.returns-then-has_loop-clause-report
returns-then-has_loop-clause-report c = let g = graph_accepted _ _ _ _ c.check_graph.ensures.report c.in_ok-graph.was in search (rules, loop_no)

pub table_has_double-requires : goal.table_has_double-requires
table_has_double-requires c =
    let front = c.incidence_front in
    let p = passed _ _ (graph_accepted _ _ _ _ c.check_graph.ensures.report c.in_ok-graph.was).0 in
    record { passed = p; ends_value = search rules; table = front.ensures.made p (omega arith) (omega arith) }

pub returns-then-table_has_double-clause-report : goal.returns-then-table_has_double-clause-report
returns-then-table_has_double-clause-report c = let g = graph_accepted _ _ _ _ c.check_graph.ensures.report c.in_ok-graph.was in search (rules, double_no)

pub returns-clause-report : goal.returns-clause-report
returns-clause-report c = let g = graph_accepted _ _ _ _ c.check_graph.ensures.report c.in_ok-graph.was in rw (g.1, g.2) (search (rules, simple_yes))
