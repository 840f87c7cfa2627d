use Rattle.std.proofs.Common.{◌≡◌, arith}
use Rattle.independent_set.proofs.RoundsLaws.{presets_more, presets_none, presets_skip}
use Rattle.independent_set.proofs.rounds.put_off_presets.Goals as goal
use Rattle.independent_set.proofs.rounds.put_off_presets.Goals.{then-preset-color, else-preset-color}

pub loop-item-init : goal.loop-item-init
loop-item-init c = presets_none _ _ _ _

pub loop-item-preserved : goal.loop-item-preserved
loop-item-preserved c = let l = c.loop-item in elim c.if-preset-color.branch [
  | then-preset-color w ↦ rw w.lists-is (presets_more _ _ _ _ _ _ l.invariant c.loop-item-test.true _ w.if-preset-color.true w.put_off_neighbors.ensures.put_off)
  | else-preset-color w ↦ rw w.lists-is (presets_skip _ _ _ _ _ _ l.invariant c.loop-item-test.true w.if-preset-color.false)
]

pub returns : goal.returns
returns c = let e : c.loop-item.item ≡ c.args.items.count = omega arith in record { put_off = rw (← e) c.loop-item.invariant }
