-- `smallest_unused` meets its contract: by so many marks, the smallest colour that none of the edges has.
use native.Mathlib.Omega.{arith}
use Rattle.smallest_color.proofs.MarksLaws.{edges_few}
use Rattle.smallest_color.proofs.smallest_unused.Goals as goal

pub returns-then-count-lt-FEW : goal.returns-then-count-lt-FEW
returns-then-count-lt-FEW c = record { answer = edges_few _ _ _ _ 64 c.if-count-lt-FEW.true (omega arith) c.first_unused_of.ensures.answer }

pub returns-then-count-lt-MORE : goal.returns-then-count-lt-MORE
returns-then-count-lt-MORE c = record { answer = edges_few _ _ _ _ 512 c.if-count-lt-MORE.true (omega arith) c.first_unused_of-then-count-lt-MORE.ensures.answer }
