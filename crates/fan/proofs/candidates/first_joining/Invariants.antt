-- `first_joining` meets its contract. The invariant: the search from place i on finds what the search from the first place finds.
use mathlib.Core.Path.{◌≡◌}
use lib.ListN.{drop}
use Rattle.lists.specs.Search.{first_that}
use Rattle.fan.specs.Candidates.{joins_marked}
use Rattle.fan.proofs.candidates.first_joining.Given as goal

abbrev pub invariant-loop-i : goal.invariant-loop-i
invariant-loop-i l = first_that (joins_marked l.work l.table l.marks l.stamp l.far.0) (drop l.i l.near) ≡ first_that (joins_marked l.work l.table l.marks l.stamp l.far.0) (drop l.from l.near)
