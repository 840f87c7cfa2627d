-- `first_unused_of` meets its contract: the first colour without a mark is the smallest that none of the edges has.
use mathlib.Core.List.{[]}
use mathlib.Core.Path.{◌∙◌}
use Rattle.smallest_color.proofs.MarksLaws.{marked_none, smallest_of_marks}
use Rattle.smallest_color.proofs.first_unused_of.Goals as goal

pub returns : goal.returns
returns g c = record { answer = smallest_of_marks _ _ _ _ (c.mark_colors-2.ensures.marks _ (c.mark_colors.ensures.marks [] (marked_none _))) (c.mark_colors-2.ensures.marks_length ∙ c.mark_colors.ensures.marks_length) c.first_unmarked.ensures.first_unmarked }
