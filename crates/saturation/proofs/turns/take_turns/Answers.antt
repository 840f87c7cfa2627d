use Prim.Native.Nat.{◌<◌}
use mathlib.Core.Path.{refl, ap, sym, ◌∙◌}
use native.Mathlib.Omega.{arith}
use borrow.Author.Rules.{rules}
use Rattle.saturation.proofs.TurnsLaws.{turn_size, turns_none, turns_more, turns_all, from_presets}
use Rattle.saturation.proofs.turns.take_turns.Goals as goal

pub loop-turns-init : goal.loop-turns-init
loop-turns-init c = (refl, refl, refl, c.requires, turns_none _ _ _)

pub turn-requires : goal.turn-requires
turn-requires c = c.loop-turns.invariant.3

pub loop-turns-preserved : goal.loop-turns-preserved
loop-turns-preserved c = let i = c.loop-turns.invariant in
    (search rules, search rules, search rules, c.turn.ensures.ready, turns_more _ _ _ _ _ _ i.4 (omega arith) (turn_size _ _ _ _ _ c.turn.ensures.colors i.3.size))

pub returns : goal.returns
returns c = let i = c.loop-turns.invariant in record { colors = from_presets _ _ _ _ _ _ (turns_all _ _ _ _ c.loop-turns._turns i.4 (omega arith)) refl (sym c.requires.size) }
