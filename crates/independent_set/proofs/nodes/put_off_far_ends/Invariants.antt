-- `put_off_far_ends` meets its contract. The invariant: the far ends of the edges passed are put off.
use Rattle.std.proofs.Common.{◌≡◌, ℕ, map, take}
use Rattle.graph.specs.Edges.{far_end}
use Rattle.greedy.specs.IndependentSet.{put_off_all}
use Rattle.independent_set.proofs.nodes.put_off_far_ends.Given as goal

abbrev pub invariant-loop-edge : goal.invariant-loop-edge
invariant-loop-edge l = l.lists ≡ put_off_all l.initial.lists (map (λ (j : ℕ). far_end l.table.ends.now j l.node.0) (take l.edge-index l.edge-items))
