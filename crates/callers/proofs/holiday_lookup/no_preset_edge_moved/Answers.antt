-- `no_preset_edge_moved` meets its contract: by the holiday lookup's clause.
use Rattle.callers.proofs.RelianceLaws.{no_preset_moved}
use Rattle.callers.proofs.holiday_lookup.no_preset_edge_moved.Goals as goal

pub returns : goal.returns
returns c = record { report = c.greedy_edge_color_with_coloring_strategy.ensures.report; colors = c.greedy_edge_color_with_coloring_strategy.ensures.colors; relied = no_preset_moved _ _ _ _ _ _ _ c.greedy_edge_color_with_coloring_strategy.ensures.accepts c.greedy_edge_color_with_coloring_strategy.ensures.precoloring }
