-- The front of the list holds the pairs at the nodes passed, and the next place is right behind them.
use mathlib.Core.Path.{◌≡◌}
use lib.ListN.{length}
use Rattle.line_graph.proofs.WrittenPairsLaws.{Writing}
use Rattle.line_graph.specs.WrittenPairs.{pairs_below}
use Rattle.line_graph.proofs.pairs.write_pairs.Given as goal

abbrev pub invariant-loop-v : goal.invariant-loop-v
invariant-loop-v l = (length l.list ≡ length l.initial.list) × Writing l.initial.list 0 (pairs_below l.table.starts.now l.table.entries.now l.v) l.list l.place
