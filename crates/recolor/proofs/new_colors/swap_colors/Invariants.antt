-- `swap_colors` meets its contract: where out is too short nothing is written.
-- The invariant: the first i colours stand in out, and those of the edges from i on are to come.
use Prim.Native.Nat.{◌≤◌}
use lib.ListN.{length, drop}
use Rattle.recolor.proofs.FrontLaws.{Front}
use Rattle.edge_table.specs.EdgeTable.{exchanged_colors}
use Rattle.recolor.proofs.new_colors.swap_colors.Given as goal

abbrev pub invariant-loop-i : goal.invariant-loop-i
invariant-loop-i l = (length l.edges ≤ length l.initial.out) × Front (exchanged_colors l.work l.c.0 l.d.0 l.edges) l.initial.out l.out (exchanged_colors l.work l.c.0 l.d.0 (drop l.i l.edges)) l.i
