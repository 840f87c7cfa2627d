-- `color_checked` meets its contract: the table, the degrees, the order, and the turns from the presets on.
use mathlib.Core.Path.{◌≡◌}
use native.Mathlib.Omega.{arith}
use Rattle.items.specs.Items.{items_of}
use Rattle.degree.proofs.ColorLaws.{order_found, order_waits, degree_colored}
use Rattle.degree.proofs.color_checked.Goals as goal

pub color_in_order-requires-clause-waiting : goal.color_in_order-requires-clause-waiting
color_in_order-requires-clause-waiting g c =
    let t = c.incidence_table-table.ensures.graph (omega (arith, c.args.graph.passed.nodes)) (omega (arith, c.args.graph.passed.even, c.args.graph.passed.edges)) in
    let k = c.new-items.ensures.same in
    let count : c.new-items.result.count ≡ items_of c.args.kind c.args.graph.nodes c.args.graph.ends.now = rw (t.0, t.1) at c.new-items.ensures.count in
    let known = rw (k.0, k.1, t.0, t.1) at c.note_degrees.ensures.degrees in
    let order = order_found _ _ _ _ _ _ _ _ c.args.graph.passed c.requires.order_room c.requires.presets_len.0 (λ v h. known v (omega (arith, count, c.requires.presets_len.0))) _ c.falling_order-count.ensures.order in
    order_waits _ _ _ _ _ _ c.requires.presets_len.0 c.requires.presets_len.1 order c.copy_colors.ensures.to

pub returns-clause-colors : goal.returns-clause-colors
returns-clause-colors g c =
    let t = c.incidence_table-table.ensures.graph (omega (arith, c.args.graph.passed.nodes)) (omega (arith, c.args.graph.passed.even, c.args.graph.passed.edges)) in
    let k = c.new-items.ensures.same in
    let count : c.new-items.result.count ≡ items_of c.args.kind c.args.graph.nodes c.args.graph.ends.now = rw (t.0, t.1) at c.new-items.ensures.count in
    let known = rw (k.0, k.1, t.0, t.1) at c.note_degrees.ensures.degrees in
    let order = order_found _ _ _ _ _ _ _ _ c.args.graph.passed c.requires.order_room c.requires.presets_len.0 (λ v h. known v (omega (arith, count, c.requires.presets_len.0))) _ c.falling_order-count.ensures.order in
    degree_colored _ _ _ _ _ _ _ c.requires.presets_len.0 c.requires.presets_len.1 order c.copy_colors.ensures.to (rw (k.0, k.1, t.0, t.1) at c.color_in_order.ensures.colors)
