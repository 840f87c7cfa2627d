-- `fewer_days` meets its contract: the part is cut off the list that it is of.
use Rattle.std.proofs.Common.{arith, sym}
use lib.Seq.{length-take-le}
use Rattle.days.proofs.FewerDaysLaws.{cut_inside, cut_second, cut_first, fewest_days}
use Rattle.days.proofs.fewer_days.Goals as goal
use Rattle.days.proofs.fewer_days.Goals.{then-part, else-part}

-- Whichever list the part is cut off, it stands in it.
pub slice_bounds-result-end : goal.slice_bounds-result-end
slice_bounds-result-end c =
    let inside = cut_inside _ _ _ _ c.fewer_days_part-part.ensures.answer in
    elim c.if-part.branch [ then-part w ↦ rw w.list-is (sym (length-take-le _ _ (omega (arith, inside)))) | else-part w ↦ rw w.list-is (sym (length-take-le _ _ (omega (arith, inside)))) ]

pub returns-clause-fewest : goal.returns-clause-fewest
returns-clause-fewest c =
    let part = c.fewer_days_part-part in
    fewest_days _ _ _ _ (elim c.if-part.branch [
      | then-part w ↦ rw w.list-is (cut_second _ _ _ _ part.ensures.answer w.if-part.true)
      | else-part w ↦ rw w.list-is (cut_first _ _ _ _ part.ensures.answer w.if-part.false)
    ])
