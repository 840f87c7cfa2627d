-- `write_sides` meets its contract. The invariant: the nodes passed have the colours of their sides.
use Rattle.two_color.proofs.ComponentsLaws.{Colored}
use Rattle.two_color.proofs.components.write_sides.Given as goal

abbrev pub invariant-loop-v : goal.invariant-loop-v
invariant-loop-v l = Colored l.n l.up l.flips l.initial.sides l.sides l.v
