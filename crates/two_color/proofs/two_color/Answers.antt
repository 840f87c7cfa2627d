-- `two_color` meets its contract: each answer's tests say which check refuses, or that none does; the clause of the bipartition follows from the outcome.
use Rattle.std.proofs.lemmas.Result.{err_from_is_err_and}
use mathlib.Core.Path.{sym, ◌∙◌}
use Rattle.two_color.proofs.TwoColorLaws.{graph_no, length_no, checked_yes, bipartition}
use Rattle.two_color.proofs.two_color.Goals as goal

pub returns-in_err-graph : goal.returns-in_err-graph
returns-in_err-graph c =
    let p = err_from_is_err_and c.from_residual.result c.from_residual.ensures.1 in
    let o = graph_no _ _ c.args.colors.now _ c.in_err-graph.ensures.report in
    record { report = rw (p.1, p.2) o.0; colors = o.1; bipartition = rw (p.1, p.2) (bipartition _ _ _ _ _ o.0 o.1) }

pub returns-then-colors-graph : goal.returns-then-colors-graph
returns-then-colors-graph c =
    let s = c.in_ok-graph.ensures.same in
    let passed = rw (s.0, s.1) at c.in_ok-graph.graph.passed in
    let o = length_no _ _ c.args.colors.now passed (λ l. c.if-colors-graph.true (l ∙ sym s.0)) in
    record { report = o.0; colors = o.1; bipartition = bipartition _ _ _ _ _ o.0 o.1 }

pub returns : goal.returns
returns c =
    let s = c.in_ok-graph.ensures.same in
    let passed = rw (s.0, s.1) at c.in_ok-graph.graph.passed in
    let o = checked_yes _ _ c.args.colors.now passed _ _ (c.if-colors-graph.false ∙ s.0) (rw (s.0, s.1) at c.color_checked.ensures.report) (rw (s.0, s.1) at c.color_checked.ensures.colors) in
    record { report = o.0; colors = o.1; bipartition = bipartition _ _ _ _ _ o.0 o.1 }
