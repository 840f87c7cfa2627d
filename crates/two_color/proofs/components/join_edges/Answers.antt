use mathlib.Core.Path.{refl}
use native.Mathlib.Omega.{arith}
use Rattle.graph.proofs.CheckLaws.{passed_inside}
use Rattle.graph.specs.Edges.{first_end, second_end}
use Rattle.two_color.specs.Sides.{odd_cycle}
use Rattle.two_color.proofs.ComponentsLaws.{taken_fine, taken_early, taken_all}
use Rattle.two_color.proofs.components.join_edges.Goals as goal

pub loop-k-init : goal.loop-k-init
unfolding odd_cycle
loop-k-init c = (refl, c.requires.joined)

pub join-requires : goal.join-requires
unfolding first_end second_end
join-requires c = let i = c.loop-k.invariant in record { forest = i.1.forest; first_in_bounds = rw c.loop-k.auto.up (passed_inside _ _ c.requires.passed _ c.loop-k-test.true) }

pub returns-then-not-join : goal.returns-then-not-join
unfolding first_end second_end
returns-then-not-join c = let i = c.loop-k.invariant in record { taken = taken_early _ _ _ _ _ (c.join.ensures.joins.taken _ _ refl refl i.1 i.0) _ (omega arith) c.if-not-join.true }

pub loop-k-preserved : goal.loop-k-preserved
unfolding first_end second_end
loop-k-preserved c = let i = c.loop-k.invariant in
    let t = taken_fine _ _ _ _ _ (c.join.ensures.joins.taken _ _ refl refl i.1 i.0) c.if-not-join.false in
    (t.0, t.1)

pub returns : goal.returns
returns c = let i = c.loop-k.invariant in record { taken = taken_all _ _ _ _ _ (omega arith) i.0 i.1 }
