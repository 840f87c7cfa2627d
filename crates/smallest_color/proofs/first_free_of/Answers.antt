-- `first_free_of` meets its contract: the first colour without a mark is the smallest that no neighbour has.
use Rattle.smallest_color.proofs.MarksLaws.{smallest_of_marks}
use Rattle.smallest_color.proofs.first_free_of.Goals as goal

pub returns : goal.returns
returns g c = let m = c.mark_far_colors in record { answer = smallest_of_marks _ _ _ _ m.ensures.marked m.ensures.marks_length c.first_unmarked.ensures.first_unmarked }
