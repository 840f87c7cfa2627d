-- `color` meets its contract: the checks refuse, or the answer and its days are the definition's.
use Rattle.std.proofs.lemmas.Result.{err_from_is_err_and}
use Rattle.greedy.specs.Degree.{degree_colors}
use Rattle.items.proofs.CallLaws.{call_refused, call_passed, call_accepted}
use Rattle.degree.proofs.color.Goals as goal

pub returns-in_err-check_items : goal.returns-in_err-check_items
returns-in_err-check_items c = let a = c.args in
    let p = err_from_is_err_and c.from_residual.result c.from_residual.ensures.1 in
    let all_parts = call_refused a.kind _ _ a.presets.now a.colors.now _ c.check_items.ensures.report degree_colors _ c.in_err-check_items.was in record { report = rw (p.1, p.2) all_parts.0; colors = all_parts.1 }

pub invariant_of-graph : goal.invariant_of-graph
invariant_of-graph c = let a = c.args in record { passed = (call_passed a.kind _ _ a.presets.now a.colors.now _ c.check_items.ensures.report _ c.in_ok-check_items.was).0 }

pub color_items-requires : goal.color_items-requires
color_items-requires c = let a = c.args in
    let p = call_passed a.kind _ _ a.presets.now a.colors.now _ c.check_items.ensures.report _ c.in_ok-check_items.was in record { presets_len = (p.1, p.2) }

pub returns : goal.returns
returns c = let a = c.args in let all_parts = call_accepted a.kind _ _ a.presets.now a.colors.now _ c.check_items.ensures.report degree_colors _ c.in_ok-check_items.was _ _ c.color_items.ensures.colors c.color_items.ensures.answer in record { report = all_parts.0; colors = all_parts.1 }
