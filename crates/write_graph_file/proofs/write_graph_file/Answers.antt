-- `write_graph_file` meets its contract: one law for each answer, every colour being a number of two bytes.
use Rattle.std.proofs.lemmas.Result.{err_from_is_err_and}
use Rattle.write_graph_file.proofs.CallLaws.{answer_graph, answer_misnamed, answer_colors, answer_short, answer_written, edges_most, graph_room, told_room}
use Rattle.write_graph_file.proofs.write_graph_file.Goals as goal

pub returns-in_err-edges : goal.returns-in_err-edges
returns-in_err-edges c =
    let s = c.args in
    let p = err_from_is_err_and c.from_residual.result c.from_residual.ensures.1 in
    let all_parts = answer_graph s.n _ _ s.tags s.method s.output.now c.type_inv.colors _ c.check_graph.ensures.report _ c.in_err-edges.was in
    rw (p.1, p.2) (record { report = all_parts.0; output = all_parts.1.0; layout = all_parts.1.1 })

pub returns-then-misnamed : goal.returns-then-misnamed
returns-then-misnamed c = let s = c.args in let all_parts = answer_misnamed s.n _ _ s.tags s.method s.output.now c.type_inv.colors _ c.check_graph.ensures.report _ c.in_ok-edges.was _ c.misnamed.ensures.answer c.if-misnamed.true in record { report = all_parts.0; output = all_parts.1.0; layout = all_parts.1.1 }

pub returns-then-wrong_colors : goal.returns-then-wrong_colors
returns-then-wrong_colors c = let s = c.args in let all_parts = answer_colors s.n _ _ s.tags s.method s.output.now c.type_inv.colors _ c.check_graph.ensures.report _ c.in_ok-edges.was _ c.misnamed.ensures.answer c.if-misnamed.false
    _ c.wrong_colors.ensures.answer c.if-wrong_colors.true in record { report = all_parts.0; output = all_parts.1.0; layout = all_parts.1.1 }

pub file_length-length-requires : goal.file_length-length-requires
file_length-length-requires c = let s = c.args in
    edges_most s.n _ s.colors.now s.tags s.method s.output.now c.type_inv.colors _ c.check_graph.ensures.report _ c.in_ok-edges.was

pub returns-then-output-length : goal.returns-then-output-length
returns-then-output-length c = let s = c.args in let all_parts = answer_short s.n _ _ s.tags s.method s.output.now c.type_inv.colors _ c.check_graph.ensures.report _ c.in_ok-edges.was _ c.misnamed.ensures.answer c.if-misnamed.false
    _ c.wrong_colors.ensures.answer c.if-wrong_colors.false _ c.file_length-length.ensures.answer c.if-output-length.true in record { report = all_parts.0; output = all_parts.1.0; layout = all_parts.1.1 }

pub put_graph-requires : goal.put_graph-requires
put_graph-requires c = let s = c.args in
    graph_room s.n _ _ s.tags s.method s.output.now c.type_inv.colors _ c.check_graph.ensures.report _ c.in_ok-edges.was _ c.misnamed.ensures.answer c.if-misnamed.false
    _ c.wrong_colors.ensures.answer c.if-wrong_colors.false _ c.file_length-length.ensures.answer c.if-output-length.false

pub put_told-requires : goal.put_told-requires
put_told-requires c = let s = c.args in
    told_room s.n _ _ s.tags s.method s.output.now c.type_inv.colors _ c.check_graph.ensures.report _ c.in_ok-edges.was _ c.misnamed.ensures.answer c.if-misnamed.false
    _ c.wrong_colors.ensures.answer c.if-wrong_colors.false _ c.file_length-length.ensures.answer c.if-output-length.false c.put_graph.new.output c.put_graph.auto.output

pub returns : goal.returns
returns c = let s = c.args in let all_parts = answer_written s.n _ _ s.tags s.method s.output.now c.type_inv.colors _ c.check_graph.ensures.report _ c.in_ok-edges.was _ c.misnamed.ensures.answer c.if-misnamed.false
    _ c.wrong_colors.ensures.answer c.if-wrong_colors.false _ c.file_length-length.ensures.answer c.if-output-length.false _ _ c.put_graph.ensures.output c.put_told.ensures.output in record { report = all_parts.0; output = all_parts.1.0; layout = all_parts.1.1 }
