-- `turn` meets its contract: the chosen item takes the smallest free colour.
use Rattle.items.proofs.ItemsLaws.{free_smallest}
use Rattle.items.proofs.TableLaws.{tabled_as}
use Rattle.saturation.proofs.TurnsLaws.{chosen_none_items, chosen_next_items, turn_none, turn_chosen}
use Rattle.saturation.proofs.turns.turn.Goals as goal

pub choose-requires : goal.choose-requires
choose-requires c = tt

pub take_color-requires : goal.take_color-requires
take_color-requires c = let l = chosen_next_items _ _ _ _ c.requires _ c.choose.ensures.answer _ c.in-Some.is in record { counts_ready = c.requires; item_in_bounds = (l.inside, l.bare) }

pub returns-in_default : goal.returns-in_default
returns-in_default c = record { colors = turn_none _ _ _ (chosen_none_items _ _ _ _ c.requires _ c.choose.ensures.answer c.in_default.is); ready = c.requires }

pub returns-in-Some : goal.returns-in-Some
returns-in-Some c = let l = chosen_next_items _ _ _ _ c.requires _ c.choose.ensures.answer _ c.in-Some.is in record { colors = turn_chosen _ _ _ _ _ _ l (free_smallest _ _ _ _ _ _ (tabled_as c.args.items _ c.requires.size) _ _ l.inside l.bare c.free_color-color.ensures.answer) c.take_color.ensures.colors; ready = c.take_color.ensures.ready }
