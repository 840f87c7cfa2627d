-- `put_off_part` meets its contract. The invariant: the edges that are left, last first, lead from the lists to the answer.
use Rattle.std.proofs.Common.{◌≡◌, ℕ, ◌<◌, reverse}
use Rattle.lists.specs.Member.{Mem}
use Rattle.greedy.specs.IndependentSet.{put_off_all}
use Rattle.independent_set.proofs.edges.put_off_part.Given as goal

abbrev pub invariant-loop-edge : goal.invariant-loop-edge
invariant-loop-edge l = record {
  in_bounds : (j : ℕ) → Mem j l.edge-iterator.iter.rest.now → j < 4096;
  left : put_off_all l.lists (reverse l.edge-iterator.iter.rest.now) ≡ put_off_all l.initial.lists (reverse l.edges);
}
