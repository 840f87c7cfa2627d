-- `outcome_text` meets its contract: the text of a refusal, or of an accepted call, which is short enough to count.
use Rattle.matchday_text.proofs.CallLaws.{refused_room, refused_text_lem, accepted_room, accepted_text}
use Rattle.matchday_text.proofs.outcome_text.Goals as goal

pub put_refused-requires : goal.put_refused-requires
put_refused-requires c = refused_room _ _ c.args.colors.now _ _ _ c.misra_gries_edge_color.ensures.report c.in-Err.is c.number.ensures.answer

pub put_days-requires : goal.put_days-requires
put_days-requires c = let all_parts = accepted_room _ _ c.args.colors.now _ _ _ c.misra_gries_edge_color.ensures.report c.in-Ok.is c.misra_gries_edge_color.ensures.colors c.misra_gries_edge_color.ensures.vizing in record { ends_bound = all_parts.0; room = all_parts.1 }

pub returns-in-Err : goal.returns-in-Err
returns-in-Err c = let all_parts = refused_text_lem _ _ _ _ _ _ c.misra_gries_edge_color.ensures.report c.in-Err.is c.number.ensures.answer _ _ _ c.put_refused.ensures.put in record { answer = all_parts.0; text = all_parts.1 }

pub returns-in-Ok : goal.returns-in-Ok
returns-in-Ok c = let all_parts = accepted_text _ _ _ _ _ _ c.misra_gries_edge_color.ensures.report c.in-Ok.is c.misra_gries_edge_color.ensures.colors _ _ _ c.put_days.ensures.put in record { answer = all_parts.0; text = all_parts.1 }
