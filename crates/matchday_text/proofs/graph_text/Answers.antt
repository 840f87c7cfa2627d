-- `graph_text` meets its contract: the text of the call lent a place for each edge.
use Rattle.matchday_text.proofs.CallLaws.{graph_done}
use Rattle.matchday_text.proofs.graph_text.Goals as goal

pub returns : goal.returns
returns c = let all_parts = graph_done _ _ _ _ _ _ c.min-m.ensures c.outcome_text.ensures.answer c.outcome_text.ensures.text in record { answer = all_parts.0; text = all_parts.1 }
