-- `take_front` meets its contract: the front item is taken out, if one is listed.
use Rattle.std.proofs.Common.{◌<◌, arith}
use Rattle.independent_set.proofs.ListingLaws.{front_first, front_out, held_at, lists_held}
use Rattle.independent_set.proofs.list.Lists.take_front.Goals as goal

pub invariant_of-self : goal.invariant_of-self
invariant_of-self c = let e = c.take_out.ensures.listed_and_place in
    held_at _ _ _ _ _ _ _ (front_out _ _ _ _ _ _ c.self.invariant (omega arith) _ _ e.0 e.1)

pub returns : goal.returns
returns c = let e = c.take_out.ensures.listed_and_place in
    let more : 0 < c.self.inside.len = omega arith in
    record { taken = rw (← c.self.view_is) (front_first _ _ _ _ _ c.self.invariant.first more, lists_held _ _ _ _ _ _ _ (front_out _ _ _ _ _ _ c.self.invariant more _ _ e.0 e.1)) }
