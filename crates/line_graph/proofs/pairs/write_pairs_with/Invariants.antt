-- From `at` on stand the pairs with the later edges passed.
use mathlib.Core.Path.{◌≡◌}
use lib.ListN.{length, take}
use Rattle.line_list.specs.LineList.{pairs_with}
use Rattle.line_graph.specs.WrittenPairs.{placed}
use Rattle.line_graph.proofs.pairs.write_pairs_with.Given as goal

abbrev pub invariant-loop-i : goal.invariant-loop-i
invariant-loop-i l = (length l.list ≡ length l.initial.list) × (l.list ≡ placed l.initial.list l.at (pairs_with l.edge.0 (take l.i l.later)))
