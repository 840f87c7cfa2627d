-- `color_checked` meets its contract: the run, with the table made.
use mathlib.Core.Path.{◌≡◌, refl, sym, ap, ◌∙◌}
use native.Mathlib.Omega.{arith}
use lib.ListN.{length}
use Rattle.items.specs.Items.{items_of, neighbors_of}
use Rattle.saturation.proofs.color_checked.Goals as goal

pub run-requires : goal.run-requires
run-requires c =
    let t = c.incidence_table-table.ensures.graph (omega (arith, c.args.graph.passed.nodes)) (omega (arith, c.args.graph.passed.even, c.args.graph.passed.edges)) in
    let count : c.new-items.result.count ≡ items_of c.args.kind c.args.graph.nodes c.args.graph.ends.now = rw (t.0, t.1) at c.new-items.ensures.count in
    let e = c.requires.presets_len in
    record { size = e.1 ∙ sym count; colors_len = (e.1 ∙ sym e.0, refl, refl) }

pub returns : goal.returns
returns c =
    let t = c.incidence_table-table.ensures.graph (omega (arith, c.args.graph.passed.nodes)) (omega (arith, c.args.graph.passed.even, c.args.graph.passed.edges)) in
    let k = c.new-items.ensures.same in
    record { answer = c.days_of.ensures.answer; colors = rw (k.0, k.1, t.0, t.1, c.requires.presets_len.1) at c.run.ensures.colors }
