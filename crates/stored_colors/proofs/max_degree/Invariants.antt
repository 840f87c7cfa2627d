-- `max_degree` meets its contract. The invariant: the longest stretch of the first v nodes.
use mathlib.Core.Path.{◌≡◌}
use Rattle.stored_colors.specs.Stored.{longest_stretch}
use Rattle.stored_colors.proofs.max_degree.Given as goal

abbrev pub invariant-loop-v : goal.invariant-loop-v
invariant-loop-v l = l.most ≡ longest_stretch l.starts l.entries l.v
