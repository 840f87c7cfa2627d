-- `color_all` meets its contract. The invariant: the edges that are left, coloured from here, leave what all leave from the start.
use mathlib.Core.Path.{◌≡◌}
use lib.ListN.{length, drop}
use Rattle.repaint.specs.Repaint.{state, all_colored}
use Rattle.repaint.proofs.color_all.Given as goal

abbrev pub invariant-loop-edge : goal.invariant-loop-edge
invariant-loop-edge l =
    all_colored l.ends (state l.work l.table) (drop (length l.yielded) l.edges) (drop (length l.yielded) l.colors) ≡ all_colored l.ends (state l.initial.work l.initial.table) l.edges l.colors
