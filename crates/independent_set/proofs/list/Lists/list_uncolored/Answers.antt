use Rattle.std.proofs.Common.{◌≡◌, length, refl, arith}
use Rattle.independent_set.proofs.ListingLaws.{alone_held, held_at, list_more, list_none, list_skip, lists_held}
use Rattle.independent_set.proofs.list.Lists.list_uncolored.Goals as goal
use Rattle.independent_set.proofs.list.Lists.list_uncolored.Goals.{then-preset, else-preset}

pub loop-item-init : goal.loop-item-init
loop-item-init c = let held = c.self.invariant in record { list = list_none _ _ _ held.first.size held.first.places; spare = held.second.size }

pub loop-item-preserved : goal.loop-item-preserved
loop-item-preserved c = let at = c.loop-item.invariant in elim c.if-preset.branch [
  | then-preset w ↦ rw (w.len-is, w.self-inside-is) (record { list = list_more _ _ _ _ _ _ at.list c.requires refl c.loop-item-test.true w.if-preset.true; spare = at.spare })
  | else-preset w ↦ rw (w.len-is, w.self-inside-is) (record { list = list_skip _ _ _ _ _ _ at.list c.requires refl c.loop-item-test.true w.if-preset.false; spare = at.spare })
]

pub invariant_of-self : goal.invariant_of-self
invariant_of-self c = let at = c.loop-item.invariant in held_at _ _ _ _ _ _ _ (alone_held _ _ _ _ _ _ _ (omega arith) (omega arith) at.spare at.list)

pub returns : goal.returns
returns c = let at = c.loop-item.invariant in
    let e : c.loop-item.item ≡ length c.args.presets.now = omega arith in
    record { listed = rw (← e) (lists_held 4096 _ _ _ _ _ _ (alone_held _ _ _ _ _ _ _ (omega arith) (omega arith) at.spare at.list)) }
