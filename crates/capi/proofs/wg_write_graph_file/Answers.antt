-- `wg_write_graph_file` meets its contract: the report of `write_graph_file` is the one answered.
use borrow.Author.Rules.{rules}
use Rattle.c_answer.proofs.AnswerLaws.{answered_by}
use Rattle.capi.proofs.wg_write_graph_file.Goals as goal

pub returns : goal.returns
returns c = search (rules, answered_by)
