use mathlib.Core.Path.{refl}
use mathlib.Core.Bool.{xor}
use native.Mathlib.Omega.{arith}
use Rattle.two_color.proofs.ComponentsLaws.{climb_none, next_inside, above_lower, climb_more, climb_done}
use Rattle.two_color.proofs.components.root_of.Goals as goal

pub loop-x-init : goal.loop-x-init
loop-x-init c = climb_none _ _ _ c.requires.forest c.requires.node_in_bounds

pub bounds-up-next : goal.bounds-up-next
bounds-up-next c = next_inside _ _ _ _ _ _ _ c.loop-x.invariant

pub returns-then-above-next : goal.returns-then-above-next
unfolding xor
returns-then-above-next c = record { finds = climb_done _ _ _ _ _ _ _ c.loop-x.invariant _ c.if-above-next.true refl refl }

pub bounds-flips-next : goal.bounds-flips-next
bounds-flips-next c = omega (arith, next_inside _ _ _ _ _ _ _ c.loop-x.invariant, c.loop-x.invariant.forest.size)

pub loop-x-smaller : goal.loop-x-smaller
loop-x-smaller c = above_lower _ _ _ _ _ _ _ c.loop-x.invariant c.if-above-next.false

pub loop-x-preserved : goal.loop-x-preserved
unfolding xor
loop-x-preserved c = climb_more _ _ _ _ _ _ _ c.loop-x.invariant c.if-above-next.false
