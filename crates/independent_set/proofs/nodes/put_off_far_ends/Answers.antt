use Rattle.std.proofs.Common.{arith, sym}
use Rattle.independent_set.proofs.NeighborsLaws.{far_end_below, far_ends_done, far_ends_more, put_off_none}
use Rattle.independent_set.proofs.nodes.put_off_far_ends.Goals as goal

pub loop-edge-init : goal.loop-edge-init
loop-edge-init c = sym (put_off_none _)

pub put_off-requires : goal.put_off-requires
put_off-requires c = let t = c.args.table in
    omega (arith, t.passed.nodes, far_end_below _ _ _ _ _ _ t.passed t.table c.requires.node_in_bounds c.edges_at-edge-items.ensures.contents _ _ c.loop-edge-test.true c.far_end-far.ensures.answer)

pub loop-edge-preserved : goal.loop-edge-preserved
loop-edge-preserved c = far_ends_more _ _ _ _ _ _ _ _ c.loop-edge.invariant c.loop-edge-test.true c.far_end-far.ensures.answer c.put_off.ensures.put_off

pub returns : goal.returns
returns c = let t = c.args.table in
    record { put_off = far_ends_done _ _ _ _ _ _ t.passed t.table c.requires.node_in_bounds c.edges_at-edge-items.ensures.contents _ _ _ c.loop-edge-test.false c.loop-edge.invariant }
