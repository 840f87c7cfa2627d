-- `greedy_node_color` meets its contract: empty presets as many as the colours are as good as none.
use mathlib.Core.Path.{refl}
use native.Mathlib.Omega.{arith}
use lib.ListN.{length}
use Rattle.lists.proofs.PartsLaws.{take_replicate}
use Rattle.greedy_color.proofs.Rules.{presets_part, nodes_without_presets}
use Rattle.greedy_color.proofs.greedy_node_color.Goals as goal

pub slice_bounds-color-end : goal.slice_bounds-color-end
slice_bounds-color-end c = presets_part _ 512 _ (omega arith)

pub returns-then-lent-le-MAX_NODES : goal.returns-then-lent-le-MAX_NODES
returns-then-lent-le-MAX_NODES c = let k = length c.args.colors.now in let all_parts = nodes_without_presets _ _ k _ _ _ _ (take_replicate k 512 65535 (omega arith)) (λ h e. e) c.color.ensures.report c.color.ensures.colors in record { report = all_parts.0; colors = all_parts.1.0; accepts = all_parts.1.1.0; proper = all_parts.1.1.1 }

pub returns-else-lent-le-MAX_NODES : goal.returns-else-lent-le-MAX_NODES
returns-else-lent-le-MAX_NODES c = let all_parts = nodes_without_presets _ _ 512 _ _ _ _ refl (λ h e. omega (arith, h.nodes)) c.color-else-lent-le-MAX_NODES.ensures.report c.color-else-lent-le-MAX_NODES.ensures.colors in record { report = all_parts.0; colors = all_parts.1.0; accepts = all_parts.1.1.0; proper = all_parts.1.1.1 }
