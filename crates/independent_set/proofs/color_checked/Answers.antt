-- `color_checked` meets its contract: the rounds start from the presets and the items without one.
use Rattle.std.proofs.Common.{◌∙◌, sym, ap}
use native.Mathlib.Omega.{arith}
use Rattle.lists.proofs.PartsLaws.{copied_same}
use Rattle.greedy.specs.IndependentSet.{Lists}
use Rattle.independent_set.proofs.RoundsLaws.{colors_answer, uncolored_below}
use Rattle.independent_set.proofs.color_checked.Goals as goal

pub color_rounds-requires : goal.color_rounds-requires
color_rounds-requires c =
    let same = c.new-items.ensures.same in
    let graph = c.incidence_table-table.ensures.graph (omega (arith, c.args.graph.passed.nodes)) (omega (arith, c.args.graph.passed.even, c.args.graph.passed.edges)) in
    let count = sym (rw (same.0, same.1, graph.0, graph.1) at c.new-items.result.counted) in
    let len = c.requires.presets_len in
    record {
      listed_below = uncolored_below _ _ _ (len.0 ∙ count) c.list_uncolored.ensures.listed;
      none_put_off = ap (λ (s : Lists). s.next) c.list_uncolored.ensures.listed;
      presets_len = (len.0 ∙ count, c.copy_colors.auto.to ∙ (len.1 ∙ count));
    }

pub returns : goal.returns
returns c =
    let same = c.new-items.ensures.same in
    let graph = c.incidence_table-table.ensures.graph (omega (arith, c.args.graph.passed.nodes)) (omega (arith, c.args.graph.passed.even, c.args.graph.passed.edges)) in
    let count = rw (same.0, same.1, graph.0, graph.1) at c.new-items.result.counted in
    let len = c.requires.presets_len in
    let rounds = rw (count, same.0, same.1, graph.0, graph.1) at c.color_rounds.ensures.colors in
    record { colors = colors_answer _ _ _ _ _ _ len.0 c.list_uncolored.ensures.listed (c.copy_colors.ensures.to ∙ copied_same _ _ (len.1 ∙ sym len.0)) rounds }
