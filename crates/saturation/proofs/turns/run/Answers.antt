-- `run` meets its contract: the start makes the counts ready, and the turns begin with the presets.
use mathlib.Core.Path.{sym, ap, ◌∙◌}
use native.Mathlib.Omega.{arith}
use lib.ListN.{length}
use Rattle.items.proofs.ItemsLaws.{items_few}
use Rattle.items.proofs.TableLaws.{sized_as}
use Rattle.saturation.proofs.TakenLaws.{started_ready, started_as, preset_none}
use Rattle.saturation.proofs.TurnsLaws.{from_presets}
use Rattle.saturation.proofs.turns.run.Goals as goal

pub start-requires : goal.start-requires
start-requires c = record { size = c.requires.size; colors_in_bounds = omega (arith, items_few _ _ _ _ (sized_as c.args.items _ c.requires.size), c.requires.colors_len.2) }

pub set_presets-requires : goal.set_presets-requires
set_presets-requires c = record { counts_ready = started_ready _ _ _ _ (c.start.auto.colors ∙ c.requires.size) c.requires.colors_len.1 (c.start.auto.waiting ∙ c.requires.colors_len.2) (started_as _ _ _ _ _ c.start.ensures.started (sym c.start.auto.colors)); colors_len = (c.start.auto.colors ∙ c.requires.colors_len.0, preset_none _ _ _ _ _ c.start.auto.colors c.start.ensures.started) }

pub returns : goal.returns
returns c = let e = c.set_presets.ensures.colors in record { colors = from_presets _ _ _ _ _ _ c.take_turns.ensures.colors e (ap length e ∙ sym c.requires.colors_len.0) }
