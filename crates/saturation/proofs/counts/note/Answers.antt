-- `note` meets its contract: the item has a colour, or the colour is new to it or not.
use native.Mathlib.Omega.{arith}
use Rattle.saturation.proofs.NotesLaws.{note_colored, note_old, note_new}
use Rattle.saturation.proofs.counts.note.Goals as goal

pub returns-then-colors-w : goal.returns-then-colors-w
returns-then-colors-w c = record { noted = note_colored _ _ _ _ _ c.requires.item_in_bounds.0 c.if-colors-w.true }

pub overflow_sub-waiting : goal.overflow_sub-waiting
overflow_sub-waiting c = (c.requires.nonzero c.if-colors-w.false).0

pub overflow_add-saturations : goal.overflow_add-saturations
overflow_add-saturations c = omega (arith, (c.requires.nonzero c.if-colors-w.false).1 c.if-marks-w-eq0.true)

pub returns-then-marks-w-eq0 : goal.returns-then-marks-w-eq0
returns-then-marks-w-eq0 c = record { noted = note_new _ _ _ _ _ c.requires.item_in_bounds.0 c.if-colors-w.false c.requires.item_in_bounds.1 c.requires.item_in_bounds.2 c.requires.item_in_bounds.3 (c.requires.nonzero c.if-colors-w.false).0 c.if-marks-w-eq0.true }

pub returns-else-marks-w-eq0 : goal.returns-else-marks-w-eq0
returns-else-marks-w-eq0 c = record { noted = note_old _ _ _ _ _ c.requires.item_in_bounds.0 c.if-colors-w.false c.requires.item_in_bounds.2 (c.requires.nonzero c.if-colors-w.false).0 c.if-marks-w-eq0.false }
