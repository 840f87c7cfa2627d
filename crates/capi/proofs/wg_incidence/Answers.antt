-- `wg_incidence` meets its contract: the report of `incidence` is the one answered.
use borrow.Author.Rules.{rules}
use Rattle.c_answer.proofs.AnswerLaws.{answered_by, both}
use Rattle.capi.proofs.wg_incidence.Goals as goal

pub returns : goal.returns
returns c = search (rules, answered_by, both)
