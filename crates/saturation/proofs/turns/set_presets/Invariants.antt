-- The items passed have their presets, the others no colour.
use mathlib.Core.Path.{◌≡◌}
use lib.ListN.{length}
use Rattle.saturation.specs.Counts.{Preset, CountsReady}
use Rattle.saturation.proofs.turns.set_presets.Given as goal

abbrev pub invariant-loop-v : goal.invariant-loop-v
invariant-loop-v l = (length l.colors ≡ length l.initial.colors) × (length l.saturations ≡ length l.initial.saturations) × (length l.waiting ≡ length l.initial.waiting) × CountsReady l.items l.colors l.saturations l.waiting × Preset l.presets l.v l.colors
