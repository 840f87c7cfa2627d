-- The items along the edges passed have their marks.
use mathlib.Core.Path.{◌≡◌}
use lib.ListN.{length, take}
use Rattle.color_marks.specs.Marks.{across_all, stored, mark_of, Asked}
use Rattle.color_marks.proofs.mark_along.Given as goal

abbrev pub invariant-loop-edge : goal.invariant-loop-edge
invariant-loop-edge l = (length l.at ≡ length l.initial.at) × (length l.marks ≡ length l.initial.marks) × Asked l.kind l.ends l.starts l.entries l.colors l.color.0 l.at × (l.marks ≡ stored (mark_of l.kind l.ends l.starts l.entries l.colors l.color.0) (across_all l.kind l.ends l.node.0 (take l.edge-index l.edges)) l.initial.marks)
