use Prim.Native.Nat.{◌<◌}
use lib.ListN.{length}
use mathlib.Core.Path.{refl, ◌∙◌}
use native.Mathlib.Omega.{arith}
use Rattle.line_graph.proofs.WrittenPairsLaws.{of_start, of_room, of_next, of_end}
use Rattle.line_graph.proofs.pairs.write_pairs_of.Goals as goal

pub loop-i-init : goal.loop-i-init
loop-i-init c = (refl, of_start _ _ _)

pub write_pairs_with-place-requires : goal.write_pairs_with-place-requires
write_pairs_with-place-requires c = let l = c.loop-i in
    let h : l.i < length c.args.edges.now = omega arith in
    omega (arith, l.invariant.0, of_room c.args.edges.now c.args.list.now l.list c.args.at l.i l.place l.invariant.1 h c.requires)

pub loop-i-preserved : goal.loop-i-preserved
loop-i-preserved c = let l = c.loop-i in
    let w = c.write_pairs_with-place in
    let h : l.i < length c.args.edges.now = omega arith in
    (w.auto.list ∙ l.invariant.0, of_next c.args.edges.now c.args.list.now l.list c.args.at l.i l.place l.invariant.1 _ _ h c.requires w.ensures.list w.ensures.answer)

pub returns : goal.returns
returns c = let l = c.loop-i in let all_parts = of_end _ _ _ _ l.i _ l.invariant.1 (omega arith) (omega arith) in record { answer = all_parts.0; list = all_parts.1 }
