-- `line_graph` meets its contract: a refusal of the graph checks leaves the list, and `list_pairs` does the rest.
use Rattle.std.proofs.lemmas.Result.{err_from_is_err_and}
use Rattle.line_graph.proofs.CallLaws.{line_refused}
use Rattle.line_graph.proofs.line_graph.Goals as goal

pub returns-in_err-graph : goal.returns-in_err-graph
returns-in_err-graph c =
    let p = err_from_is_err_and c.from_residual.result c.from_residual.ensures.1 in
    let all_parts = line_refused _ _ c.args.list.now _ c.in_err-graph.ensures.report in
    record { report = rw (p.1, p.2) all_parts.0; list = all_parts.1 }
