-- `choose` meets its contract. The invariant: no item passed has no colour and both of the greatest counts.
use mathlib.Core.Path.{◌≡◌}
use mathlib.Core.Option.{none}
use Rattle.choice.specs.Choice.{lowest_below, can_be_next}
use Rattle.choice.proofs.choose.Given as goal

abbrev pub invariant-loop-item : goal.invariant-loop-item
invariant-loop-item l = lowest_below (can_be_next l.colors l.saturations l.waiting l.most l.longest) l.item ≡ none
