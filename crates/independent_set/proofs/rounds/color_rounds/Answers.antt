use Rattle.std.proofs.Common.{◌∙◌, refl}
use Rattle.independent_set.proofs.RoundsLaws.{round_below, round_more, rounds_done, rounds_over, rounds_start}
use Rattle.independent_set.proofs.rounds.color_rounds.Goals as goal

pub loop-r-init : goal.loop-r-init
loop-r-init c = rounds_start _ _ _ _ _ c.requires.listed_below c.requires.none_put_off c.requires.presets_len.1

pub color_listed-requires : goal.color_listed-requires
color_listed-requires c = let at = c.loop-r.invariant in record { listed_below = round_below _ _ _ _ _ _ _ at _ c.put_off_presets.ensures.put_off; colors_len = at.size }

pub loop-r-preserved : goal.loop-r-preserved
loop-r-preserved c = let listed = c.color_listed.ensures in
    let at = c.loop-r.invariant in
    round_more _ _ _ _ _ _ _ at _ c.put_off_presets.ensures.put_off c.loop-r-test.true _ _ _ listed.round listed.listed_below (c.color_listed.auto.colors ∙ at.size) c.next_round.ensures.turned

pub returns-then-is_empty : goal.returns-then-is_empty
returns-then-is_empty c = record { colors = rounds_over _ _ _ _ _ _ _ c.loop-r.invariant (c.if-is_empty.ensures.answer.0 refl) }

pub returns : goal.returns
returns c = record { colors = rounds_done _ _ _ _ _ _ _ c.loop-r.invariant c.loop-r-test.false }
