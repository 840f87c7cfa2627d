use Prim.Native.Nat.{◌<◌}
use mathlib.Core.Path.{refl, ◌∙◌}
use native.Mathlib.Omega.{arith}
use borrow.Author.Rules.{rules}
use Rattle.saturation.proofs.TakenLaws.{started_none, started_more, started_all}
use Rattle.items.proofs.ItemsLaws.{items_few, neighbors_few, neighbors_counted}
use Rattle.items.proofs.TableLaws.{sized_as, tabled_as}
use Rattle.saturation.proofs.counts.start.Goals as goal

pub loop-v-init : goal.loop-v-init
loop-v-init c = (refl, refl, started_none _ _ _)

pub overflow_cast-v : goal.overflow_cast-v
overflow_cast-v c = omega (arith, items_few _ _ _ _ (sized_as c.args.items c.args.items.count refl))

pub overflow_cast-waiting : goal.overflow_cast-waiting
overflow_cast-waiting c =
    let h : c.loop-v.v < c.args.items.count = omega arith in
    let tabled = tabled_as c.args.items c.args.items.count refl in
    omega (arith, neighbors_few _ _ _ _ _ _ tabled _ _ h (c.neighbor_count-count.ensures.answer ∙ neighbors_counted _ _ _ _ _ _ tabled _ h))

pub loop-v-preserved : goal.loop-v-preserved
loop-v-preserved c =
    let h : c.loop-v.v < c.args.items.count = omega arith in
    let i = c.loop-v.invariant in
    (search rules, search rules, started_more _ _ _ _ _ i.2 (omega (arith, i.0, c.requires.size)) (omega (arith, i.1, c.requires.size, c.requires.colors_in_bounds)) (c.neighbor_count-count.ensures.answer ∙ neighbors_counted _ _ _ _ _ _ (tabled_as c.args.items c.args.items.count refl) _ h))

pub returns : goal.returns
returns c = record { started = started_all _ _ _ c.loop-v.v _ c.loop-v.invariant.2 (omega (arith, c.requires.size)) (omega (arith, c.requires.size)) }
