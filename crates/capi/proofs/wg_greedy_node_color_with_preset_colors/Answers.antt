-- `wg_greedy_node_color_with_preset_colors` meets its contract: the report of `greedy_node_color_with_preset_colors` is the one answered.
use borrow.Author.Rules.{rules}
use Rattle.c_answer.proofs.AnswerLaws.{answered_by}
use Rattle.capi.proofs.wg_greedy_node_color_with_preset_colors.Goals as goal

pub returns : goal.returns
returns c = search (rules, answered_by)
