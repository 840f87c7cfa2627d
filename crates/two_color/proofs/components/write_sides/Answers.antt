use native.Mathlib.Omega.{arith}
use Rattle.two_color.proofs.ComponentsLaws.{colored_none, colored_root, above_colored, above_two, colored_hung}
use Rattle.two_color.proofs.components.write_sides.Goals as goal
use Rattle.two_color.proofs.components.write_sides.Goals.{then-above-v, else-above-v}

pub loop-v-init : goal.loop-v-init
loop-v-init c = colored_none _ _ _ _ c.requires.forest c.requires.n_in_bounds

pub bounds-sides-above : goal.bounds-sides-above
bounds-sides-above c = above_colored _ _ _ _ _ _ c.loop-v.invariant c.loop-v-test.true c.if-above-v.false

pub side_under-requires : goal.side_under-requires
side_under-requires c = above_two _ _ _ _ _ _ c.loop-v.invariant c.loop-v-test.true c.if-above-v.false

pub loop-v-preserved : goal.loop-v-preserved
loop-v-preserved c = let i = c.loop-v.invariant in
    let h = c.loop-v-test.true in
    elim c.if-above-v.branch [
      | then-above-v w ↦ colored_root _ _ _ _ _ _ i h _ w.if-above-v.true w.sides-is
      | else-above-v w ↦ colored_hung _ _ _ _ _ _ i h w.if-above-v.false _ _ w.side_under.ensures.answer w.sides-is
    ]

pub returns : goal.returns
returns c = record { sides = λ low odd holds v h. c.loop-v.invariant.right low odd holds v (omega arith) }
