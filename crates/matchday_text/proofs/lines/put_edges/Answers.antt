-- `put_edges` meets its contract.
use Rattle.matchday_text.proofs.PutLaws.{line_none, line_room, line_more}
use Rattle.matchday_text.proofs.lines.put_edges.Goals as goal

pub loop-k-init : goal.loop-k-init
loop-k-init c = line_none _ _ _ _

pub put_edge-next-requires : goal.put_edge-next-requires
put_edge-next-requires c = line_room _ _ _ _ _ _ _ _ c.loop-k-test.true c.requires.room c.loop-k.invariant

pub loop-k-preserved : goal.loop-k-preserved
loop-k-preserved c = line_more _ _ _ _ _ _ _ _ _ c.loop-k.invariant c.put_edge-next.ensures.put
