use Prim.Native.Nat.{◌<◌}
use mathlib.Core.Path.{refl, ◌∙◌}
use native.Mathlib.Omega.{arith}
use Rattle.line_graph.proofs.WrittenPairsLaws.{below_start, below_room, below_next, below_end}
use Rattle.line_graph.proofs.pairs.write_pairs.Goals as goal

pub loop-v-init : goal.loop-v-init
loop-v-init c = (refl, below_start _ _ _)

pub overflow_cast-v : goal.overflow_cast-v
overflow_cast-v c = omega (arith, c.args.table.passed.nodes)

pub write_pairs_of-place-requires : goal.write_pairs_of-place-requires
write_pairs_of-place-requires c = let l = c.loop-v in
    let e = c.edges_at-edges in
    let h : l.v < c.args.table.nodes = omega arith in
    omega (arith, l.invariant.0, below_room _ _ c.args.list.now l.list l.v c.args.table.nodes l.place l.invariant.1 e.result.now e.ensures.contents h c.requires)

pub loop-v-preserved : goal.loop-v-preserved
loop-v-preserved c = let l = c.loop-v in
    let e = c.edges_at-edges in
    let w = c.write_pairs_of-place in
    let h : l.v < c.args.table.nodes = omega arith in
    (w.auto.list ∙ l.invariant.0, below_next _ _ c.args.list.now l.list l.v c.args.table.nodes l.place l.invariant.1 e.result.now _ _ e.ensures.contents h c.requires w.ensures.list w.ensures.answer)

pub returns : goal.returns
returns c = let l = c.loop-v in record { list = below_end _ _ _ _ l.v _ l.place l.invariant.1 (omega arith) (omega arith) }
