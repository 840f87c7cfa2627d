-- `take_color` meets its contract: the colour is none, or no neighbour waits, or it is noted.
use mathlib.Core.Path.{refl}
use Rattle.saturation.proofs.TakenLaws.{none_taken, take_idle}
use Rattle.saturation.proofs.counts.take_color.Goals as goal

pub returns-then-color-eq-NONE : goal.returns-then-color-eq-NONE
returns-then-color-eq-NONE c = record { colors = none_taken _ _ _ c.requires.item_in_bounds.0 c.requires.item_in_bounds.1 c.if-color-eq-NONE.true; ready = c.requires.counts_ready }

pub returns-then-waiting-v-eq0 : goal.returns-then-waiting-v-eq0
returns-then-waiting-v-eq0 c = record { colors = refl; ready = take_idle _ _ _ _ _ _ c.requires.counts_ready c.requires.item_in_bounds.0 c.requires.item_in_bounds.1 c.if-color-eq-NONE.false c.if-waiting-v-eq0.true }

pub note_color-requires : goal.note_color-requires
note_color-requires c = record { counts_ready = c.requires.counts_ready; item_in_bounds = c.requires.item_in_bounds; fact = c.if-color-eq-NONE.false }
