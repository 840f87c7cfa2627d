use Rattle.std.proofs.Common.{arith}
use Rattle.lists.proofs.PartsLaws.{copied_next}
use Rattle.two_color.proofs.copy_out.Goals as goal

pub loop-i-preserved : goal.loop-i-preserved
loop-i-preserved c = copied_next _ _ _ _ c.loop-i.invariant c.loop-i-test.true (omega (arith, c.requires.0))
