-- `second_chosen` meets its contract: a place without a colour decides, or else the days.
use Rattle.days.proofs.FewerDaysLaws.{second_none, first_none, by_days}
use Rattle.days.proofs.second_chosen.Goals as goal

pub returns-then-contains : goal.returns-then-contains
returns-then-contains c = record { answer = second_none _ _ _ c.contains.ensures.answer c.if-contains.true }

pub returns-then-contains-2 : goal.returns-then-contains-2
returns-then-contains-2 c = record { answer = first_none _ _ _ c.contains.ensures.answer c.if-contains.false _ c.contains-2.ensures.answer c.if-contains-2.true }

pub returns-else-contains-2 : goal.returns-else-contains-2
returns-else-contains-2 c = record { answer = by_days _ _ _ c.contains.ensures.answer c.if-contains.false _ c.contains-2.ensures.answer c.if-contains-2.false _ _ c.days_of.ensures.answer c.days_of-else-contains-2.ensures.answer }
