-- `greedy_node_color_with_coloring_strategy` meets its contract: each arm's strategy is the one named.
use borrow.Author.Rules.{rules}
use Rattle.greedy.proofs.SaturationLaws.{saturation_greedy}
use Rattle.greedy.specs.declared.ColoringStrategy.TheVariants as S
use Rattle.greedy_color.proofs.Rules.{degree_greedy, independent_set_rule, clauses_by_strategy}
use Rattle.greedy_color.proofs.greedy_node_color_with_coloring_strategy.Goals as goal

pub returns-in-Degree : goal.returns-in-Degree
returns-in-Degree c = clauses_by_strategy _ S.Degree c.in-Degree.is degree_greedy _ _ _ _ _ _ (search rules) (search rules)

pub returns-in-Saturation : goal.returns-in-Saturation
returns-in-Saturation c = clauses_by_strategy _ S.Saturation c.in-Saturation.is saturation_greedy _ _ _ _ _ _ (search rules) (search rules)

pub returns-in-IndependentSet : goal.returns-in-IndependentSet
returns-in-IndependentSet c = clauses_by_strategy _ S.IndependentSet c.in-IndependentSet.is independent_set_rule _ _ _ _ _ _ (search rules) (search rules)
