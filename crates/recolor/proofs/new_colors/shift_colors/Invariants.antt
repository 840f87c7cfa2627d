-- `shift_colors` meets its contract: of a fan without a place, or where out is too short, nothing is written.
-- The invariant: the first i colours stand in out, and those of the places from i on are to come.
use Prim.Native.Nat.{◌<◌}
use lib.ListN.{length, drop}
use Rattle.recolor.proofs.FrontLaws.{Front}
use Rattle.edge_table.specs.EdgeTable.{rotated_colors}
use Rattle.recolor.specs.NewColors.{shifted_colors}
use Rattle.recolor.proofs.new_colors.shift_colors.Given as goal

abbrev pub invariant-loop-i : goal.invariant-loop-i
invariant-loop-i l = (length l.later < length l.initial.out) × Front (shifted_colors l.work l.fn.fan l.color.0) l.initial.out l.out (rotated_colors l.work (drop l.i l.later) l.color.0) l.i
