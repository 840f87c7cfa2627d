use borrow.Author.Rules.{rules}
use Rattle.lists.proofs.SearchLaws.{first_here, first_next, first_end_lem}
use Rattle.fan.proofs.candidates.first_joining.Goals as goal

pub returns-then-joins : goal.returns-then-joins
returns-then-joins c = search (rules, first_here)

pub loop-i-preserved : goal.loop-i-preserved
loop-i-preserved c = search (rules, first_next)

pub returns : goal.returns
returns c = search (rules, first_end_lem)
