use mathlib.Core.Path.{◌≡◌}
use native.Mathlib.Omega.{arith}
use Prim.Native.Nat.{◌<◌}
use Rattle.line_graph.proofs.CallLaws.{few_edges}
use Rattle.line_graph.proofs.WrittenPairsLaws.{count_start, square_bound, square_covers, count_next}
use Rattle.line_graph.proofs.pairs.list_length.Goals as goal

pub loop-v-init : goal.loop-v-init
loop-v-init c = (count_start _ _, omega arith)

pub overflow_cast-v : goal.overflow_cast-v
overflow_cast-v c = omega (arith, c.args.table.passed.nodes)

pub overflow_mul-total : goal.overflow_mul-total
overflow_mul-total c = omega (arith, square_bound _ _ _ c.loop-v.v c.edges_at-degree.ensures.contents (few_edges _ _ _ _ c.args.table.passed c.args.table.table c.loop-v.v (omega arith)))

pub overflow_sub-total : goal.overflow_sub-total
overflow_sub-total c = omega (arith, square_covers c.edges_at-degree.result.now)

pub overflow_add-total : goal.overflow_add-total
overflow_add-total c = omega (arith, c.args.table.passed.nodes, square_bound _ _ _ c.loop-v.v c.edges_at-degree.ensures.contents (few_edges _ _ _ _ c.args.table.passed c.args.table.table c.loop-v.v (omega arith)), c.loop-v.invariant.1)

pub loop-v-preserved : goal.loop-v-preserved
loop-v-preserved c = let l = c.loop-v in
    let e = c.edges_at-degree in
    (count_next _ _ e.result.now l.v l.total e.ensures.contents l.invariant.0, omega (arith, square_bound _ _ _ c.loop-v.v c.edges_at-degree.ensures.contents (few_edges _ _ _ _ c.args.table.passed c.args.table.table c.loop-v.v (omega arith)), l.invariant.1))
