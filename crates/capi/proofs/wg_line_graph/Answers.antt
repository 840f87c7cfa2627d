-- `wg_line_graph` meets its contract: the report of `line_graph` is the one answered.
use borrow.Author.Rules.{rules}
use Rattle.c_answer.proofs.AnswerLaws.{answered_by}
use Rattle.capi.proofs.wg_line_graph.Goals as goal

pub returns : goal.returns
returns c = search (rules, answered_by)
