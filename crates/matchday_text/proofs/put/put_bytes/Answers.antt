-- `put_bytes` meets its contract.
use Rattle.matchday_text.proofs.PutLaws.{put_byte_more}
use Rattle.matchday_text.proofs.put.put_bytes.Goals as goal

pub loop-byte-preserved : goal.loop-byte-preserved
loop-byte-preserved c = put_byte_more _ _ _ c.loop-byte.byte-index _ _ _ _ c.loop-byte-test.true c.loop-byte.invariant c.put-next.ensures.put
