use Prim.Native.Nat.{◌<◌}
use lib.ListN.{length}
use mathlib.Core.Path.{refl, ◌∙◌}
use native.Mathlib.Omega.{arith}
use borrow.Author.Rules.{rules}
use Rattle.items.proofs.ItemsLaws.{items_few}
use Rattle.items.proofs.TableLaws.{sized_as}
use Rattle.saturation.proofs.TakenLaws.{preset_more, preset_all}
use Rattle.saturation.proofs.turns.set_presets.Goals as goal

pub loop-v-init : goal.loop-v-init
loop-v-init c = (refl, refl, refl, c.requires.counts_ready, c.requires.colors_len.1)

pub overflow_cast-v : goal.overflow_cast-v
overflow_cast-v c = omega (arith, c.requires.colors_len.0, items_few _ _ _ _ (sized_as c.args.items _ c.requires.counts_ready.size))

pub take_color-requires : goal.take_color-requires
take_color-requires c = let i = c.loop-v.invariant in record { counts_ready = i.3; item_in_bounds = (omega (arith, c.requires.colors_len.0, i.0), i.4.bare _ (omega arith)) }

pub loop-v-preserved : goal.loop-v-preserved
loop-v-preserved c = let i = c.loop-v.invariant in
    let h : c.loop-v.v < length c.args.presets.now = omega arith in
    (search rules, search rules, search rules, c.take_color.ensures.ready, preset_more _ _ _ _ _ i.4 (omega (arith, h, c.requires.colors_len.0, i.0)) h refl c.take_color.ensures.colors)

pub returns : goal.returns
returns c = let i = c.loop-v.invariant in record { colors = preset_all _ _ c.loop-v.v i.4 (i.0 ∙ c.requires.colors_len.0) (omega arith); ready = i.3 }
