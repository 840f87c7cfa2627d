use Rattle.std.proofs.Common.{◌≡◌, arith}
use Rattle.independent_set.proofs.NeighborsLaws.{part_below, parts_done, parts_more, parts_none}
use Rattle.independent_set.proofs.edges.put_off_sharing.Goals as goal

pub loop-turn-init : goal.loop-turn-init
loop-turn-init c = parts_none _ _ _ _

pub put_off_part-requires : goal.put_off_part-requires
put_off_part-requires c = let t = c.args.table in
    record { in_bounds = λ j m. omega (arith, t.passed.edges, part_below _ _ _ _ _ t.passed t.table c.requires.edge_in_bounds _ _ c.part_at-part.ensures.contents j m) }

pub loop-turn-preserved : goal.loop-turn-preserved
loop-turn-preserved c = parts_more _ _ _ _ _ _ _ _ c.part_at-part.ensures.contents c.loop-turn.invariant c.put_off_part.ensures.put_off

pub returns : goal.returns
returns c = let t = c.args.table in
    let e : c.loop-turn.turn ≡ 4 = omega arith in
    record { put_off = parts_done _ _ _ _ _ t.passed t.table c.requires.edge_in_bounds _ _ (rw e at c.loop-turn.invariant) }
