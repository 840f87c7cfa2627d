-- The edges passed are taken in, and none of them is inside one side.
use Rattle.std.proofs.Common.{◌≡◌, false}
use Rattle.two_color.specs.Sides.{odd_cycle}
use Rattle.two_color.specs.Components.{Joined}
use Rattle.two_color.proofs.components.join_edges.Given as goal

abbrev pub invariant-loop-k : goal.invariant-loop-k
invariant-loop-k l = (odd_cycle l.ends l.k ≡ false) × Joined l.ends l.k l.up l.flips
