-- `greedy_node_color_with_preset_colors` meets its contract; the callers' clauses follow from the outcome.
use Rattle.greedy.specs.Degree.{degree_colors}
use Rattle.greedy_color.proofs.Rules.{degree_greedy, with_presets}
use Rattle.greedy_color.proofs.greedy_node_color_with_preset_colors.Goals as goal

pub returns : goal.returns
returns c = let all_parts = with_presets degree_colors degree_greedy _ _ _ _ _ _ c.color.ensures.report c.color.ensures.colors in record { report = all_parts.0; colors = all_parts.1.0; accepts = all_parts.1.1.0; precoloring = all_parts.1.1.1.0; proper = all_parts.1.1.1.1 }
