use Rattle.smallest_color.proofs.MarksLaws.{far_marked_begin, far_marked_next, far_marked_end}
use Rattle.smallest_color.proofs.mark_far_colors.Goals as goal

pub loop-edge-init : goal.loop-edge-init
loop-edge-init c = far_marked_begin _ _ _ c.edges_at-edges.result.now _ c.requires

pub loop-edge-preserved : goal.loop-edge-preserved
loop-edge-preserved c = far_marked_next _ _ _ _ _ _ c.loop-edge.invariant _ _ _ c.loop-edge-test.true c.far_end-far.ensures.answer c.color_of.ensures.answer c.mark.ensures.marks

pub returns : goal.returns
returns c = record { marked = far_marked_end _ _ _ _ _ _ c.loop-edge.invariant c.edges_at-edges.ensures.contents c.loop-edge-test.false; marks_length = c.loop-edge.auto.marks }
