-- `mark_colors` meets its contract. The invariant: besides what was marked, the colours of the edges passed are.
use Prim.Native.Nat.{ℕ}
use mathlib.Core.List.{List, ◌++◌}
use lib.ListN.{take}
use Rattle.smallest_color.specs.Marks.{Marked}
use Rattle.smallest_color.specs.EdgeMarks.{colors_of}
use Rattle.smallest_color.proofs.mark_colors.Given as goal

abbrev pub invariant-loop-edge : goal.invariant-loop-edge
invariant-loop-edge l = (cs : List ℕ) → Marked l.initial.marks cs → Marked l.marks (cs ++ colors_of l.colors (take l.edge-index l.edges))
