use mathlib.Core.Path.{◌∙◌}
use Rattle.items.proofs.TableLaws.{tabled_as}
use Rattle.degree.proofs.ColorLaws.{waiting_inside, waiting_next, item_turn, turns_done}
use Rattle.degree.proofs.color_in_order.Goals as goal

pub bounds-colors-item : goal.bounds-colors-item
bounds-colors-item c = waiting_inside _ _ _ c.loop-item.invariant.0 c.loop-item-test.true

pub loop-item-preserved : goal.loop-item-preserved
loop-item-preserved c =
    let l = c.loop-item in
    let t = c.loop-item-test.true in
    (waiting_next _ _ _ l.invariant.0 t _, item_turn _ _ _ _ _ _ _ _ _ (tabled_as c.args.items _ (l.auto.colors ∙ c.requires.size)) l.invariant.0 l.invariant.1 t c.free_color.ensures.answer)

pub returns : goal.returns
returns c = record { colors = turns_done _ _ _ _ c.loop-item.invariant.1 c.loop-item-test.false }
