-- `edges_properly_colored` meets its contract: by the date table's clause.
use Rattle.callers.proofs.RelianceLaws.{edges_proper}
use Rattle.callers.proofs.date_table.edges_properly_colored.Goals as goal

pub returns : goal.returns
returns c = record { report = c.misra_gries_edge_color.ensures.report; colors = c.misra_gries_edge_color.ensures.colors; relied = edges_proper _ _ _ _ _ c.misra_gries_edge_color.ensures.vizing }
