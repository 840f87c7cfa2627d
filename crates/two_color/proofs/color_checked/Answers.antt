-- `color_checked` meets its contract: two colours suffice or not, and the sides are copied out.
use mathlib.Core.Path.{sym, ap, ◌∙◌}
use Rattle.two_color.specs.TwoColor.{side_days}
use borrow.Author.Rules.{rules}
use Rattle.two_color.proofs.TwoColorLaws.{sides_fit, sides_days, sides_accepted, report_refused, colors_refused}
use Rattle.two_color.proofs.color_checked.Goals as goal

pub slice_bounds-copy_out-end : goal.slice_bounds-copy_out-end
slice_bounds-copy_out-end c = let s = c.color_nodes.ensures.nodes_colored.sided c.if-color_nodes.true in sym (sides_fit _ _ _ _ s).0

pub copy_out-requires : goal.copy_out-requires
copy_out-requires c = let s = c.color_nodes.ensures.nodes_colored.sided c.if-color_nodes.true in let f = sides_fit _ _ _ _ s in (c.requires.colors_len ∙ sym f.0, f.1)

pub returns-then-color_nodes : goal.returns-then-color_nodes
returns-then-color_nodes c = let taken = c.if-color_nodes.true in
    let days = c.days_of_sides-days.ensures.answer ∙ (ap (side_days c.args.graph.nodes) c.edges.ensures.answer ∙ sides_days _ _ c.args.graph.passed (c.color_nodes.ensures.nodes_colored.even taken)) in let all_parts = sides_accepted _ _ _ _ _ _ (c.color_nodes.ensures.nodes_colored.even taken) (c.color_nodes.ensures.nodes_colored.sided taken) days c.copy_out.ensures.colors in record { report = all_parts.0; colors = all_parts.1 }

-- Nothing is written where 8 is said.
pub returns-else-color_nodes : goal.returns-else-color_nodes
returns-else-color_nodes c = record { report = search (rules, report_refused); colors = search (rules, colors_refused) }
