-- `greatest_among` meets its contract. The invariant: the best so far is the greatest count of the items passed that have the saturation.
use mathlib.Core.Path.{◌≡◌}
use Rattle.choice.specs.Choice.{greatest_below, count_with}
use Rattle.choice.proofs.greatest_among.Given as goal

abbrev pub invariant-loop-item : goal.invariant-loop-item
invariant-loop-item l = l.best ≡ greatest_below (count_with l.saturations l.saturation l.waiting) l.item
