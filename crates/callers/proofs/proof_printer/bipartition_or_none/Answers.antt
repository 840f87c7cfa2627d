-- `bipartition_or_none` meets its contract: by the proof printer's clause.
use Rattle.callers.proofs.RelianceLaws.{bipartition_or_none}
use Rattle.callers.proofs.proof_printer.bipartition_or_none.Goals as goal

pub returns : goal.returns
returns c = record { report = c.two_color.ensures.report; colors = c.two_color.ensures.colors; relied = bipartition_or_none _ _ _ _ _ c.two_color.ensures.bipartition }
