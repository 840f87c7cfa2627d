-- `uncolor_all` meets its contract. The invariant: the edges that are left, uncoloured from here, leave what all leave from the start.
use mathlib.Core.Path.{◌≡◌}
use lib.ListN.{drop}
use Rattle.repaint.specs.Repaint.{state, all_uncolored}
use Rattle.repaint.proofs.uncolor_all.Given as goal

abbrev pub invariant-loop-edge : goal.invariant-loop-edge
invariant-loop-edge l = all_uncolored l.ends (state l.work l.table) (drop l.edge-index l.edges) ≡ all_uncolored l.ends (state l.initial.work l.initial.table) l.edges
