-- `mark_used` meets its contract: some item has the colour, and the marks are set, or none has it.
use mathlib.Core.Path.{◌∙◌}
use Rattle.lists.proofs.AnyLaws.{any_elem}
use Rattle.color_marks.proofs.MarksLaws.{used_marked, unused_kept}
use Rattle.color_marks.proofs.mark_used.Goals as goal

pub returns-then-contains : goal.returns-then-contains
returns-then-contains c = record { marks = used_marked _ _ _ _ _ _ _ _ _ c.mark_known.ensures.marks _ (c.contains.ensures.value ∙ any_elem _ _) c.if-contains.true }

pub returns-else-contains : goal.returns-else-contains
returns-else-contains c = record { marks = unused_kept _ _ _ _ _ _ _ _ _ (c.contains.ensures.value ∙ any_elem _ _) c.if-contains.false }
