use mathlib.Core.Path.{refl, ◌∙◌}
use native.Mathlib.Omega.{arith}
use Rattle.items.specs.Items.{neighbors_of}
use Rattle.items.proofs.ItemsLaws.{neighbors_few, neighbors_counted}
use Rattle.items.proofs.TableLaws.{tabled_as}
use Rattle.degree.proofs.ColorLaws.{degrees_next}
use Rattle.degree.proofs.note_degrees.Goals as goal

pub overflow_cast-degrees : goal.overflow_cast-degrees
overflow_cast-degrees c =
    let h = c.loop-item-test.true in
    let t = tabled_as c.args.items c.args.items.count refl in
    omega (arith, neighbors_few _ _ _ _ _ _ t _ _ h (c.neighbor_count.ensures.answer ∙ neighbors_counted _ _ _ _ _ _ t _ h))

pub loop-item-preserved : goal.loop-item-preserved
loop-item-preserved c =
    let l = c.loop-item in
    let e = c.neighbor_count.ensures.answer ∙ neighbors_counted _ _ _ _ _ _ (tabled_as c.args.items c.args.items.count refl) l.item c.loop-item-test.true in
    degrees_next (neighbors_of _ _ _) l.degrees l.item _ l.invariant (omega (arith, c.requires.room)) e
