-- `misra_gries_add_edge` meets its contract: which check before 11 refuses is what `check_simple` answers, the rest what `color_from` does; the clause
-- follows from the outcome.
use Rattle.std.proofs.Common.{arith, length}
use Rattle.std.proofs.lemmas.Result.{err_from_is_err_and}
use Rattle.simple_graph.proofs.SimpleLaws.{simple_refused, simple_accepted}
use Rattle.misra_gries.proofs.AddLaws.{refused_before, sizes_yes, added_meets, edge_added}
use Rattle.misra_gries.proofs.misra_gries_add_edge.Goals as goal

pub returns-in_err-check_simple : goal.returns-in_err-check_simple
returns-in_err-check_simple c =
    let p = err_from_is_err_and c.from_residual.result c.from_residual.ensures.1 in
    let o = refused_before _ _ _ _ _ c.sizes_fit-sized.ensures.answer _ (simple_refused _ _ _ _ _ _ c.check_simple.ensures.report (omega arith) (omega arith) _ c.in_err-check_simple.was) in
    rw (p.1, p.2) (record { report = o.0; colors = o.1; added = edge_added _ _ _ _ _ _ o })

pub color_from-requires : goal.color_from-requires
color_from-requires c = let a = simple_accepted _ _ _ _ _ _ c.check_simple.ensures.report (omega arith) (omega arith) _ c.in_ok-check_simple.was in
    let size = sizes_yes _ (length c.args.stored.now) _ _ c.sizes_fit-sized.ensures.answer a.2 in
    record { admitted = a.1; table = c.check_simple.ensures.made a.0 (omega (arith, a.0.nodes)) (omega (arith, a.0.even, a.0.edges)); stored_len_bound = omega (arith, size.0); colors_len = size.1 }

pub returns : goal.returns
returns c =
    let args = c.args in
    let a = simple_accepted _ _ _ _ _ _ c.check_simple.ensures.report (omega arith) (omega arith) _ c.in_ok-check_simple.was in
    let o = added_meets args.n args.ends.now args.stored.now args.colors.now a.1 (sizes_yes _ _ _ _ c.sizes_fit-sized.ensures.answer a.2) _ _ (c.color_from.ensures.report, c.color_from.ensures.colors) in
    record { report = o.0; colors = o.1; added = edge_added _ _ _ _ _ _ o }
