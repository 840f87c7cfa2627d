-- `run` meets its contract. The invariant: the edges before k have their colours, and the steps from k on hold what those from the start do.
use Prim.Native.Nat.{◌-◌}
use mathlib.Core.Path.{◌≡◌}
use Rattle.misra_gries.specs.Step.{Running, held_of, steps_from}
use Rattle.graph.specs.Edges.{edge_count}
use Rattle.misra_gries.proofs.run.run.Given as goal

abbrev pub invariant-loop-k : goal.invariant-loop-k
invariant-loop-k l = Running l.n l.ends l.starts l.entries l.work l.table l.marks l.so_far l.k
    × (steps_from l.ends (edge_count l.ends) l.n (held_of l.work l.so_far) l.k (edge_count l.ends - l.k) ≡ steps_from l.ends (edge_count l.ends) l.n (held_of l.initial.work l.initial.so_far) l.from (edge_count l.ends - l.from))
