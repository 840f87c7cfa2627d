use Rattle.smallest_color.proofs.MarksLaws.{edges_marked_begin, edges_marked_next, edges_marked_end}
use Rattle.smallest_color.proofs.mark_colors.Goals as goal

pub loop-edge-init : goal.loop-edge-init
loop-edge-init c = λ cs m. edges_marked_begin _ c.args.edges.now _ cs m

pub loop-edge-preserved : goal.loop-edge-preserved
loop-edge-preserved c = λ cs m. edges_marked_next _ _ _ cs _ (c.loop-edge.invariant cs m) _ _ c.loop-edge-test.true c.color_of.ensures.answer c.mark.ensures.marks

pub returns-clause-marks : goal.returns-clause-marks
returns-clause-marks c = λ cs m. edges_marked_end _ _ _ cs _ (c.loop-edge.invariant cs m) c.loop-edge-test.false
