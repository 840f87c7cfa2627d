-- `fewer_days_part` meets its contract: a list is too short, or one is chosen.
use Rattle.days.proofs.FewerDaysLaws.{part_short, part_short_second, part_chosen}
use Rattle.days.proofs.fewer_days_part.Goals as goal
use Rattle.days.proofs.fewer_days_part.Goals.{then-first-m-via-then-first-m, then-first-m-via-else-first-m+then-second-m}

pub returns-then-first-m : goal.returns-then-first-m
returns-then-first-m c = record {
  answer = elim c.then-first-m.branch [
    | then-first-m-via-then-first-m w ↦ part_short _ _ _ w.if-first-m.true
    | then-first-m-via-else-first-m+then-second-m w ↦ part_short_second _ _ _ w.if-first-m.false w.if-second-m.true
  ];
}

pub returns : goal.returns
returns c = record { answer = part_chosen _ _ _ c.if-first-m.false c.if-second-m.false _ c.second_chosen-chosen.ensures.answer }
