-- `adjacent_nodes_differ_unless_preset` meets its contract: by the page grid's clause.
use Rattle.callers.proofs.RelianceLaws.{adjacent_nodes}
use Rattle.callers.proofs.page_grid.adjacent_nodes_differ_unless_preset.Goals as goal

pub returns : goal.returns
returns c = record { report = c.greedy_node_color_with_coloring_strategy.ensures.report; colors = c.greedy_node_color_with_coloring_strategy.ensures.colors; relied = adjacent_nodes _ _ _ _ _ (λ p l. c.greedy_node_color_with_coloring_strategy.ensures.accepts p l.0 l.1) c.greedy_node_color_with_coloring_strategy.ensures.proper }
