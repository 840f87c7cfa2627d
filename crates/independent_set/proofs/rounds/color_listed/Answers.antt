use Rattle.std.proofs.Common.{arith}
use Rattle.independent_set.proofs.RoundsLaws.{front_below, turn_done, turn_less, turn_more, turn_start}
use Rattle.independent_set.proofs.rounds.color_listed.Goals as goal

pub loop-front-init : goal.loop-front-init
loop-front-init c = turn_start _ _ _ _ _ c.requires.listed_below c.requires.colors_len

pub bounds-colors-front : goal.bounds-colors-front
bounds-colors-front c = let at = c.loop-front.invariant in omega (arith, at.size, front_below _ _ _ _ _ _ at _ _ c.in-Some.ensures.taken)

pub put_off_neighbors-requires : goal.put_off_neighbors-requires
put_off_neighbors-requires c = record { item_in_bounds = front_below _ _ _ _ _ _ c.loop-front.invariant _ _ c.in-Some.ensures.taken }

pub loop-front-preserved : goal.loop-front-preserved
loop-front-preserved c = turn_more _ _ _ _ _ _ c.loop-front.invariant _ _ c.in-Some.ensures.taken _ c.put_off_neighbors.ensures.put_off

pub loop-front-smaller : goal.loop-front-smaller
loop-front-smaller c = turn_less _ _ _ _ _ _ c.loop-front.invariant _ _ c.in-Some.ensures.taken _ c.put_off_neighbors.ensures.put_off

pub returns : goal.returns
returns c = let taken = c.in_default.ensures.taken in
    let done = turn_done _ _ _ _ _ _ c.loop-front.invariant taken.0 in
    record { round = rw taken.1 done; listed_below = rw taken.1 c.loop-front.invariant.below }
