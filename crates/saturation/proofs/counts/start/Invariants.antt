-- The items passed have no colour and wait for all their neighbours.
use mathlib.Core.Path.{◌≡◌}
use lib.ListN.{length}
use Rattle.saturation.specs.Counts.{neighbors_in, Started}
use Rattle.saturation.proofs.counts.start.Given as goal

abbrev pub invariant-loop-v : goal.invariant-loop-v
invariant-loop-v l = (length l.colors ≡ length l.initial.colors) × (length l.waiting ≡ length l.initial.waiting) × Started (neighbors_in l.items) l.v l.colors l.waiting
