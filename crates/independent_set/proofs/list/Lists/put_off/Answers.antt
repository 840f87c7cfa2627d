-- `put_off` meets its contract: the item is listed and moved, or nothing changes.
use Rattle.independent_set.proofs.ListingLaws.{held_at, lists_held, put_off_elsewhere, put_off_held, put_off_unlisted}
use Rattle.independent_set.proofs.list.Lists.put_off.Goals as goal
use Rattle.independent_set.proofs.list.Lists.put_off.Goals.{else-here-len-via-then-here-len+else-self-here, else-here-len-via-else-here-len}

pub invariant_of-self : goal.invariant_of-self
invariant_of-self c = let e = c.take_out.ensures.listed_and_place in
    held_at _ _ _ _ _ _ _ (put_off_held _ _ _ _ _ _ c.self.invariant c.args.item.0 c.if-here-len.true c.if-self-here.true _ _ e.0 e.1)

pub returns-then-self-here : goal.returns-then-self-here
returns-then-self-here c = let e = c.take_out.ensures.listed_and_place in
    record { put_off = rw (← c.self.view_is) (lists_held _ _ _ _ _ _ _ (put_off_held _ _ _ _ _ _ c.self.invariant c.args.item.0 c.if-here-len.true c.if-self-here.true _ _ e.0 e.1)) }

pub returns-else-here-len : goal.returns-else-here-len
returns-else-here-len c = record {
  put_off = rw (← c.self.view_is) (elim c.else-here-len.branch [
    | else-here-len-via-then-here-len+else-self-here w ↦ put_off_elsewhere _ _ _ _ _ _ c.self.invariant c.args.item.0 w.if-self-here.false
    | else-here-len-via-else-here-len w ↦ put_off_unlisted _ _ _ _ _ _ c.self.invariant c.args.item.0 w.if-here-len.false
  ]);
}
