-- `list_by_table` meets its contract: one law stands for each answer.
use mathlib.Core.Path.{refl}
use native.Mathlib.Omega.{arith}
use Rattle.line_graph.proofs.CallLaws.{list_short, list_written}
use Rattle.line_graph.proofs.list_by_table.Goals as goal

pub returns-then-list-total : goal.returns-then-list-total
returns-then-list-total c = let all_parts = list_short _ _ c.args.list.now c.args.table.passed _ _ c.args.table.table _ c.list_length-total.ensures.answer (omega arith) in record { report = all_parts.0; list = all_parts.1 }

pub returns : goal.returns
returns c = let all_parts = list_written _ _ _ c.args.table.passed _ _ c.args.table.table _ c.list_length-total.ensures.answer _ _ c.if-list-total.false refl c.write_pairs.ensures.list in record { report = all_parts.0; list = all_parts.1 }
