-- `color_in_order` meets its contract. The invariant: the turns left give what all turns give at first, and their items have no colour yet.
use mathlib.Core.Path.{◌≡◌}
use lib.ListN.{drop}
use Rattle.greedy.specs.Degree.{color_in_order}
use Rattle.items.specs.Items.{neighbors_of}
use Rattle.degree.specs.Color.{Waiting}
use Rattle.degree.proofs.color_in_order.Given as goal

abbrev pub invariant-loop-item : goal.invariant-loop-item
invariant-loop-item l = Waiting (drop l.item-index l.order) l.colors
    × (color_in_order (neighbors_of l.items.kind l.items.table.nodes l.items.table.ends.now) (drop l.item-index l.order) l.colors ≡ color_in_order (neighbors_of l.items.kind l.items.table.nodes l.items.table.ends.now) l.order l.initial.colors)
