use Rattle.recolor.proofs.TablePathLaws.{follow_none, follow_edge}
use Rattle.recolor.proofs.path.follow.Goals as goal

pub returns-in_default-clause-answer : goal.returns-in_default-clause-answer
returns-in_default-clause-answer c = (follow_none _ _ _ _ _ _ _ _ _ _ c.loop-len.invariant c.loop-len-test.true _ c.edge_of_color.ensures.answer c.in_default.is).0

pub loop-len-preserved : goal.loop-len-preserved
loop-len-preserved c =
    rw (c.swap.ensures.x_after, c.swap.ensures.y_after)
    (follow_edge _ _ _ _ _ _ _ _ _ _ c.loop-len.invariant c.loop-len-test.true _ c.edge_of_color.ensures.answer _ _ c.in-Some.is c.far_end-end.ensures.answer)
