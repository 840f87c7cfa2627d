-- `matchday_text` meets its contract: the text of the graph that was read, or of refusal 10.
use mathlib.Core.Path.{refl, sym}
use native.Mathlib.Omega.{arith}
use lib.Seq.{length-take-le}
use Rattle.matchday_text.proofs.CallLaws.{unread_room, unread_text, read_edges, read_text}
use Rattle.matchday_text.proofs.matchday_text.Goals as goal

pub put_refused-requires : goal.put_refused-requires
put_refused-requires c = unread_room _ _ _ _ _ _ refl refl c.read_graph_file.ensures.layout _ c.in-Err.is _ c.number.ensures.answer c.type_inv.bytes

pub overflow_mul-count : goal.overflow_mul-count
overflow_mul-count c = omega (arith, read_edges _ _ _ _ _ _ refl refl c.read_graph_file.ensures.layout _ c.in-Ok.is)

pub slice_bounds-ends-end : goal.slice_bounds-ends-end
slice_bounds-ends-end c = omega (arith, read_edges _ _ _ _ _ _ refl refl c.read_graph_file.ensures.layout _ c.in-Ok.is)

pub slice_bounds-graph_text-end : goal.slice_bounds-graph_text-end
slice_bounds-graph_text-end c = sym (length-take-le _ _ (omega (arith, c.read_graph_file.auto.ends, read_edges _ _ _ _ _ _ refl refl c.read_graph_file.ensures.layout _ c.in-Ok.is)))

pub returns-in-Err : goal.returns-in-Err
returns-in-Err c = let all_parts = unread_text _ _ _ _ _ _ refl refl c.read_graph_file.ensures.layout _ c.in-Err.is _ c.number.ensures.answer c.type_inv.bytes _ _ _ c.put_refused.ensures.put in record { answer = all_parts.0; text = all_parts.1.0; passes_over = all_parts.1.1 }

pub returns-in-Ok : goal.returns-in-Ok
returns-in-Ok c = let all_parts = read_text _ _ _ _ _ _ refl refl c.read_graph_file.ensures.layout _ c.in-Ok.is _ _ _ c.graph_text.ensures.answer c.graph_text.ensures.text in record { answer = all_parts.0; text = all_parts.1.0; passes_over = all_parts.1.1 }
