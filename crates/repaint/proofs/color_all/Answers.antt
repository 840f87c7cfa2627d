use Rattle.std.proofs.Common.{rules, length, length-append}
use Rattle.std.proofs.lemmas.Slice.Zip.{zip_turn, zip_end}
use Rattle.repaint.specs.Repaint.{state}
use Rattle.repaint.proofs.RepaintLaws.{color_next, color_used_up}
use Rattle.repaint.proofs.color_all.Goals as goal

pub loop-edge-preserved : goal.loop-edge-preserved
loop-edge-preserved c =
    let l = c.loop-edge in
    let turn = zip_turn c.args.edges.now c.args.colors.now l.yielded c.into_iter-edge-iterator.result l.edge-iterator c.next.new.self _ (search rules) (search rules) l.yielded_by _ c.in-Some.is c.next.ensures.steps in
    let next = color_next c.args.ends.now (state l.work l.table) c.args.edges.now c.args.colors.now (length l.yielded) turn.0 turn.1 in
    simp length-append (cc (turn.2 0, turn.3 0, next, l.invariant, c.color_edge.ensures.state))

pub returns : goal.returns
returns c =
    let l = c.loop-edge in
    let end = zip_end c.args.edges.now c.args.colors.now l.yielded c.into_iter-edge-iterator.result l.edge-iterator c.next.new.self _ (search rules) (search rules) l.yielded_by c.in-None.is c.next.ensures.steps in
    let last = color_used_up c.args.ends.now (state l.work l.table) c.args.edges.now c.args.colors.now (length l.yielded) end in
    record { state = cc (last, l.invariant) }
