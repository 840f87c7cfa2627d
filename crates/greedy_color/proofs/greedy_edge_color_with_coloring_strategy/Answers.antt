-- `greedy_edge_color_with_coloring_strategy` meets its contract: each arm's strategy is the one named.
use Rattle.greedy.proofs.SaturationLaws.{saturation_greedy}
use Rattle.greedy.specs.declared.ColoringStrategy.TheVariants as S
use Rattle.greedy_color.proofs.Rules.{degree_greedy, independent_set_rule, edges_by_strategy}
use Rattle.greedy_color.proofs.greedy_edge_color_with_coloring_strategy.Goals as goal

pub returns-in-Degree : goal.returns-in-Degree
returns-in-Degree c = let all_parts = edges_by_strategy _ S.Degree c.in-Degree.is degree_greedy _ _ _ _ _ _ c.color.ensures.report c.color.ensures.colors in record { report = all_parts.0; colors = all_parts.1.0; accepts = all_parts.1.1.0; precoloring = all_parts.1.1.1.0; proper = all_parts.1.1.1.1 }

pub returns-in-Saturation : goal.returns-in-Saturation
returns-in-Saturation c = let all_parts = edges_by_strategy _ S.Saturation c.in-Saturation.is saturation_greedy _ _ _ _ _ _ c.color-in-Saturation.ensures.report c.color-in-Saturation.ensures.colors in record { report = all_parts.0; colors = all_parts.1.0; accepts = all_parts.1.1.0; precoloring = all_parts.1.1.1.0; proper = all_parts.1.1.1.1 }

pub returns-in-IndependentSet : goal.returns-in-IndependentSet
returns-in-IndependentSet c = let all_parts = edges_by_strategy _ S.IndependentSet c.in-IndependentSet.is independent_set_rule _ _ _ _ _ _ c.color-in-IndependentSet.ensures.report c.color-in-IndependentSet.ensures.colors in record { report = all_parts.0; colors = all_parts.1.0; accepts = all_parts.1.1.0; precoloring = all_parts.1.1.1.0; proper = all_parts.1.1.1.1 }
