-- The total is the length of the pairs at the nodes passed, at most 4,096 * 4,096 for each, so that no sum wraps.
use Prim.Native.Nat.{◌*◌, ◌≤◌}
use mathlib.Core.Path.{◌≡◌}
use lib.ListN.{length}
use Rattle.line_graph.specs.WrittenPairs.{pairs_below}
use Rattle.line_graph.proofs.pairs.list_length.Given as goal

abbrev pub invariant-loop-v : goal.invariant-loop-v
invariant-loop-v l = (l.total ≡ length (pairs_below l.table.starts.now l.table.entries.now l.v)) × (l.total ≤ l.v * 16777216)
