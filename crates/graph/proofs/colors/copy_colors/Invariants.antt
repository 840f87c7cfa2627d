-- The invariant: the colours passed are copied.
use Rattle.std.proofs.Common.{◌≡◌, length, take, drop, ◌++◌}
use Rattle.graph.proofs.colors.copy_colors.Given as goal

abbrev pub invariant-loop-place : goal.invariant-loop-place
invariant-loop-place l = (length l.to ≡ length l.initial.to) × (l.to ≡ take l.place l.from ++ drop l.place l.initial.to)
