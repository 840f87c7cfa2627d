-- `adjacent_edges_differ_unless_preset` meets its contract: by the page grid's clause.
use Rattle.callers.proofs.RelianceLaws.{adjacent_edges}
use Rattle.callers.proofs.page_grid.adjacent_edges_differ_unless_preset.Goals as goal

pub returns : goal.returns
returns c = record { report = c.greedy_edge_color_with_coloring_strategy.ensures.report; colors = c.greedy_edge_color_with_coloring_strategy.ensures.colors; relied = adjacent_edges _ _ _ _ _ (λ p l. c.greedy_edge_color_with_coloring_strategy.ensures.accepts p l.0 l.1) c.greedy_edge_color_with_coloring_strategy.ensures.proper }
