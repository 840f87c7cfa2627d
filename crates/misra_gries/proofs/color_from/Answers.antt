-- `color_from` meets its contract: the stored colours are entered or refused, then the run's list and tally are read off.
use mathlib.Core.Path.{refl, sym, ◌∙◌}
use lib.Seq.{length-take-le}
use Rattle.lists.proofs.PartsLaws.{copied_same}
use Rattle.graph.specs.Edges.{edge_count}
use Rattle.stored_colors.proofs.StoredTableLaws.{longest_degree, stored_yes, stored_no}
use Rattle.misra_gries.proofs.RunLaws.{running_stored, running_room, rest_held, rest_days, rest_colors}
use Rattle.misra_gries.proofs.CallLaws.{from_refused, from_accepted}
use Rattle.misra_gries.proofs.color_from.Goals as goal

pub returns-then-not-color_stored : goal.returns-then-not-color_stored
returns-then-not-color_stored c = let all_parts = from_refused _ _ _ _ (stored_no _ _ _ c.requires.admitted c.requires.stored_len_bound _ (c.max_degree-limit.ensures.answer ∙ longest_degree _ _ _ _ c.requires.table) 294912 refl _ _ _ c.color_stored.ensures.answer c.color_stored.ensures.state c.if-not-color_stored.true) in record { report = all_parts.0; colors = all_parts.1 }

pub run-tally-requires : goal.run-tally-requires
run-tally-requires c = let yes = stored_yes _ _ _ c.requires.admitted c.requires.stored_len_bound _ (c.max_degree-limit.ensures.answer ∙ longest_degree _ _ _ _ c.requires.table) 294912 refl _ _ _ c.color_stored.ensures.answer c.color_stored.ensures.state (cc) in
    running_stored _ _ _ _ _ _ _ _ c.requires.admitted c.requires.table c.requires.stored_len_bound yes.0 yes.1 yes.2 c.of.ensures.answer

pub returns : goal.returns
returns c = let yes = stored_yes _ _ _ c.requires.admitted c.requires.stored_len_bound _ (c.max_degree-limit.ensures.answer ∙ longest_degree _ _ _ _ c.requires.table) 294912 refl _ _ _ c.color_stored.ensures.answer c.color_stored.ensures.state (cc) in
    let held = rest_held _ _ _ _ _ _ _ _ _ _ c.run-tally.ensures.held yes.1 c.of.ensures.answer in
    let colors = rest_colors (edge_count c.args.ends.now) _ _ _ held _ (c.copy_colors.ensures.to ∙ copied_same _ _ (c.requires.colors_len ∙ sym (length-take-le _ _ (running_room _ _ _ _ _ _ _ _ _ c.run-tally.ensures.running)))) in let all_parts = from_accepted _ _ _ _ yes.0 _ _ (rest_days _ _ _ _ _ _ _ _ _ c.run-tally.ensures.running held _ colors _ c.days_after.ensures.answer) colors in record { report = all_parts.0; colors = all_parts.1 }
