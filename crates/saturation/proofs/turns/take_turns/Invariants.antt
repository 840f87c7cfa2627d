-- The turns left lead from here to the answer.
use Prim.Native.Nat.{◌-◌}
use mathlib.Core.Path.{◌≡◌}
use lib.ListN.{length}
use Rattle.greedy.specs.Saturation.{saturation_from, saturation_colors}
use Rattle.saturation.specs.Counts.{neighbors_in, CountsReady}
use Rattle.saturation.proofs.turns.take_turns.Given as goal

abbrev pub invariant-loop-turns : goal.invariant-loop-turns
invariant-loop-turns l = (length l.colors ≡ length l.initial.colors) × (length l.saturations ≡ length l.initial.saturations) × (length l.waiting ≡ length l.initial.waiting) × CountsReady l.items l.colors l.saturations l.waiting × (saturation_from (neighbors_in l.items) l.items.count (l.items.count - l._turns) l.colors ≡ saturation_colors (neighbors_in l.items) l.items.count l.initial.colors)
