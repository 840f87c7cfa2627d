-- `color_stored` meets its contract. The invariant: the edges from k on, coloured from here, leave what all leave from the start.
use Prim.Native.Nat.{◌≤◌}
use mathlib.Core.Path.{◌≡◌}
use lib.ListN.{length, drop}
use Rattle.repaint.specs.Repaint.{state}
use Rattle.stored_colors.specs.Stored.{stored_from, color_stored}
use Rattle.stored_colors.proofs.color_stored.Given as goal

abbrev pub invariant-loop-k : goal.invariant-loop-k
invariant-loop-k l = (length l.stored ≤ 4096) × (stored_from l.ends l.limit (state l.work l.table) l.k (drop l.k l.stored) ≡ color_stored l.ends l.stored l.limit (state l.initial.work l.initial.table))
