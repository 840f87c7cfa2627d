-- `mark_far_colors` meets its contract. The invariant: the colours of the edges passed are marked, and no others.
use lib.ListN.{take}
use Rattle.smallest_color.specs.Marks.{far_colors, Marked}
use Rattle.smallest_color.proofs.mark_far_colors.Given as goal

abbrev pub invariant-loop-edge : goal.invariant-loop-edge
invariant-loop-edge l = Marked l.marks (far_colors l.ends l.colors l.node.0 (take l.edge-index l.edges))
