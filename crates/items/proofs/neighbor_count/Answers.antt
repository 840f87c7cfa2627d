-- `neighbor_count` meets its contract: the neighbours at one node, or at two.
use native.Mathlib.Omega.{arith}
use Rattle.items.proofs.ItemsLaws.{counts_fit}
use Rattle.items.proofs.neighbor_count.Goals as goal

pub overflow_add-result : goal.overflow_add-result
overflow_add-result c = omega (arith, counts_fit _ _ _ _ _ _ _ (omega arith) c.count_at-count.ensures.answer c.count_at.ensures.answer)
