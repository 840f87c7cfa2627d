-- `strategy_of` meets its contract: each arm's number is the strategy's.
use borrow.Author.Rules.{rules}
use Rattle.c_answer.proofs.StrategyLaws.{names_degree, names_saturation, names_independent_set, names_none}
use Rattle.c_answer.proofs.strategy.strategy_of.Goals as goal

pub returns-in-0 : goal.returns-in-0
returns-in-0 c = search (rules, names_degree)

pub returns-in-1 : goal.returns-in-1
returns-in-1 c = search (rules, names_saturation)

pub returns-in-2 : goal.returns-in-2
returns-in-2 c = search (rules, names_independent_set)

pub returns-in_default : goal.returns-in_default
returns-in_default c = search (rules, names_none)
