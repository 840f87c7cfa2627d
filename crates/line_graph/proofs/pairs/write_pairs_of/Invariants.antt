-- From `at` on stand the pairs of the edges passed, and the next place is right behind them.
use mathlib.Core.Path.{◌≡◌}
use lib.ListN.{length}
use Rattle.line_graph.proofs.WrittenPairsLaws.{Writing, pairs_before}
use Rattle.line_graph.proofs.pairs.write_pairs_of.Given as goal

abbrev pub invariant-loop-i : goal.invariant-loop-i
invariant-loop-i l = (length l.list ≡ length l.initial.list) × Writing l.initial.list l.at (pairs_before l.edges l.i) l.list l.place
