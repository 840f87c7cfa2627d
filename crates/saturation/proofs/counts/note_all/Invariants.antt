-- The items along the edges passed have noted the colour.
use mathlib.Core.Path.{◌≡◌}
use lib.ListN.{length, take}
use Rattle.color_marks.specs.Marks.{across_all}
use Rattle.saturation.specs.Counts.{Noted}
use Rattle.saturation.proofs.counts.note_all.Given as goal

abbrev pub invariant-loop-edge : goal.invariant-loop-edge
invariant-loop-edge l = (length l.saturations ≡ length l.initial.saturations) × (length l.waiting ≡ length l.initial.waiting) × (length l.marks ≡ length l.initial.marks) × Noted l.colors (across_all l.items.kind l.items.table.ends.now l.node.0 (take l.edge-index l.edges)) l.initial.saturations l.initial.waiting l.initial.marks l.saturations l.waiting l.marks
