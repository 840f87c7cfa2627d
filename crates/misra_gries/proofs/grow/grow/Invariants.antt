-- `grow` meets its contract. The invariant: `len` edges of the fan are written and marked, `next` is the one after them, and no
-- candidate before lo may join.
use Rattle.graph.specs.Edges.{edge_count}
use Rattle.fan.proofs.CandidateLaws.{NoneJoins}
use Rattle.misra_gries.proofs.MarkedFanLaws.{Growing}
use Rattle.misra_gries.proofs.grow.grow.Given as goal

abbrev pub invariant-loop-len : goal.invariant-loop-len
invariant-loop-len l = Growing l.ends (edge_count l.ends) l.work l.stamp l.initial.next.0 l.node.0 l.out l.marks l.len l.next.0 × NoneJoins l.work l.marks l.stamp l.near l.lo
