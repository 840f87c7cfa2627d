-- `next_round` meets its contract: the next list stands in the list's place.
use Rattle.independent_set.proofs.ListingLaws.{held_at, lists_held, turned}
use Rattle.independent_set.proofs.list.Lists.next_round.Goals as goal

pub invariant_of-self : goal.invariant_of-self
invariant_of-self c = held_at _ _ _ _ _ _ _ (turned _ _ _ _ _ _ _ c.self.invariant _ c.copy_colors.ensures.to)

pub returns : goal.returns
returns c = record { turned = rw (← c.self.view_is) (lists_held _ _ _ _ _ _ _ (turned _ _ _ _ _ _ _ c.self.invariant _ c.copy_colors.ensures.to)) }
