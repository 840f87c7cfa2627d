-- `wg_greedy_node_color_with_coloring_strategy` meets its contract: a known number's strategy is called, an unknown one is answered by the checks or by 255.
use borrow.Author.Rules.{rules}
use Rattle.greedy.specs.Call.{check_nodes}
use Rattle.capi.proofs.StrategyLaws.{known_answered, unknown_answered}
use Rattle.capi.proofs.wg_greedy_node_color_with_coloring_strategy.Goals as goal

pub returns-in-Some : goal.returns-in-Some
returns-in-Some c = search (rules, known_answered)

pub returns-in-None : goal.returns-in-None
unfolding check_nodes
returns-in-None c = search (rules, unknown_answered)
