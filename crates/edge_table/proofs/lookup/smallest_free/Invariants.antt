-- `smallest_free` meets its contract. The invariant: the search from c on finds what the search from 0 finds.
use Prim.Native.Nat.{◌-◌}
use mathlib.Core.Path.{◌≡◌}
use Rattle.edge_table.specs.EdgeTable.{empty_from, smallest_empty}
use Rattle.edge_table.proofs.lookup.smallest_free.Given as goal

abbrev pub invariant-loop-c : goal.invariant-loop-c
invariant-loop-c l = empty_from (576 - l.c) l.table l.node.0 l.c ≡ smallest_empty l.table l.node.0
