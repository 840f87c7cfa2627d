-- `skip` meets its contract. The invariant: the place that the search from i on finds is what the search from the first place finds.
use Prim.Native.Nat.{◌+◌}
use mathlib.Core.Path.{◌≡◌}
use lib.ListN.{drop}
use Rattle.lists.specs.Search.{first_place}
use Rattle.fan.specs.Candidates.{may_join}
use Rattle.fan.proofs.candidates.skip.Given as goal

abbrev pub invariant-loop-i : goal.invariant-loop-i
invariant-loop-i l = l.i + first_place (may_join l.work l.marks l.stamp) (drop l.i l.near) ≡ l.from + first_place (may_join l.work l.marks l.stamp) (drop l.from l.near)
