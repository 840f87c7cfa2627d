-- `check_items` meets its contract: each answer's tests say which check refuses, or that none does.
use Rattle.std.proofs.lemmas.Result.{err_from_is_err_and}
use Rattle.greedy.proofs.CallLaws.{check_refuses, colors_wrong, presets_wrong, checks_pass}
use Rattle.greedy.proofs.check_items.Goals as goal
use Rattle.greedy.proofs.check_items.Goals.{then-colors-items-via-then-colors-items, then-colors-items-via-else-colors-items+then-presets-items}

pub returns-in_err-graph : goal.returns-in_err-graph
returns-in_err-graph c =
    let p = err_from_is_err_and c.from_residual.result c.from_residual.ensures.1 in
    record { report = rw (p.1, p.2) (check_refuses _ _ _ _ _ _ _ c.check_graph.ensures.report c.in_err-graph.was) }

pub returns-then-colors-items : goal.returns-then-colors-items
returns-then-colors-items c =
    record {
      report = elim c.then-colors-items.branch [
        | then-colors-items-via-then-colors-items w ↦ colors_wrong _ _ _ _ _ _ _ c.check_graph.ensures.report c.in_ok-graph.was w.if-colors-items.true
        | then-colors-items-via-else-colors-items+then-presets-items w ↦ presets_wrong _ _ _ _ _ _ _ c.check_graph.ensures.report c.in_ok-graph.was w.if-colors-items.false w.if-presets-items.true
      ];
    }

pub returns : goal.returns
returns c = record { report = checks_pass _ _ _ _ _ _ _ c.check_graph.ensures.report c.in_ok-graph.was c.if-colors-items.false c.if-presets-items.false }
