-- `root_of` meets its contract. The invariant: the node reached is in the same component, with the side between the two, and the trees hold the same components.
-- The measure: the node reached, x; a node that is no root hangs under a lower one.
use Rattle.two_color.proofs.ComponentsLaws.{Climbs}
use Rattle.two_color.proofs.components.root_of.Given as goal

abbrev pub invariant-loop-x : goal.invariant-loop-x
invariant-loop-x l = Climbs l.initial.up l.initial.flips l.initial.x l.up l.flips l.x l.odd

abbrev pub decreases-loop-x : goal.decreases-loop-x
decreases-loop-x l = l.x
