-- `misra_gries_edge_color` meets its contract: which check refuses, or that none does, is what `check_simple` answers; demand 3 follows from the outcome.
use Rattle.std.proofs.Common.{arith}
use Rattle.std.proofs.lemmas.Result.{err_from_is_err_and}
use borrow.Author.Tests.{eqb-true}
use Rattle.simple_graph.proofs.SimpleLaws.{simple_refused, simple_accepted}
use Rattle.misra_gries.proofs.CallLaws.{refuses, whole_meets, vizing_coloring}
use Rattle.misra_gries.proofs.misra_gries_edge_color.Goals as goal

pub returns-in_err-check_simple : goal.returns-in_err-check_simple
returns-in_err-check_simple c =
    let p = err_from_is_err_and c.from_residual.result c.from_residual.ensures.1 in
    let o = refuses _ _ _ _ (simple_refused _ _ _ _ _ _ c.check_simple.ensures.report (omega arith) (omega arith) _ c.in_err-check_simple.was) in
    rw (p.1, p.2) (record { report = o.0; colors = o.1; vizing = vizing_coloring _ _ _ _ _ o })

pub color_from-requires : goal.color_from-requires
color_from-requires c = let a = simple_accepted _ _ _ _ _ _ c.check_simple.ensures.report (omega arith) (omega arith) _ c.in_ok-check_simple.was in
    record { admitted = a.1; table = c.check_simple.ensures.made a.0 (omega (arith, a.0.nodes)) (omega (arith, a.0.even, a.0.edges)); stored_len_bound = omega arith; colors_len = eqb-true _ _ a.2 }

pub returns : goal.returns
returns c =
    let args = c.args in
    let a = simple_accepted _ _ _ _ _ _ c.check_simple.ensures.report (omega arith) (omega arith) _ c.in_ok-check_simple.was in
    let o = whole_meets args.n args.ends.now _ a.1 (eqb-true _ _ a.2) _ _ (c.color_from.ensures.report, c.color_from.ensures.colors) in
    record { report = o.0; colors = o.1; vizing = vizing_coloring _ _ _ _ _ o }
