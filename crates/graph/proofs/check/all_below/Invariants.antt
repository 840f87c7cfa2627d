use Rattle.std.proofs.Common.{◌≡◌, take}
use Rattle.lists.specs.Search.{all_below}
use Rattle.graph.proofs.check.all_below.Given as goal

abbrev pub invariant-loop-end : goal.invariant-loop-end
invariant-loop-end l = l.all ≡ all_below l.n (take l.end-index l.ends)
