-- The items of either kind: the nodes that each has, its neighbours, their number and the smallest free colour by the table.
use Rattle.std.specs.Prelude.{ℕ, ◌+◌, ◌-◌, ◌≡◌, List, ◌++◌, cond, length, eqb}
use Rattle.graph.specs.Check.{Passed}
use Rattle.graph.specs.Edges.{edge_count, first_end, second_end, far_end, neighbors}
use Rattle.graph.specs.Stretch.{stretch, Table}
use Rattle.greedy.specs.Call.{Rule, edge_neighbors, greedy_nodes, greedy_edges}
use Rattle.graph.specs.Color.{Outcome, smallest_from}
use Rattle.smallest_color.specs.Marks.{far_colors}
use Rattle.smallest_color.specs.EdgeMarks.{colors_of}
use Rattle.items.specs.declared.Kind.{Kind}
use Rattle.items.specs.declared.Kind.TheVariants.{Nodes, Edges}

-- How many items a graph of n nodes has.
abbrev pub items_of : Kind → ℕ → List ℕ → ℕ
items_of Nodes n ends = n
items_of Edges n ends = edge_count ends

-- The nodes of an item: a node itself, or an edge's two ends.
unfoldable pub first_node : Kind → List ℕ → ℕ → ℕ
first_node Nodes ends v = v
first_node Edges ends v = first_end ends v

unfoldable pub second_node : Kind → List ℕ → ℕ → ℕ
second_node Nodes ends v = v
second_node Edges ends v = second_end ends v

-- The item to which edge k leads from node w: its far end, or the edge itself.
unfoldable pub across_of : Kind → List ℕ → ℕ → ℕ → ℕ
across_of Nodes ends k w = far_end ends k w
across_of Edges ends k w = k

-- An edge stands once among the edges at each of its nodes.
unfoldable pub own_of : Kind → ℕ
own_of Nodes = 0
own_of Edges = 1

-- The neighbours of an item, as the definition has them: of an edge by the line list.
unfoldable pub neighbors_of : Kind → ℕ → List ℕ → ℕ → List ℕ
neighbors_of Nodes n ends = neighbors ends (edge_count ends)
neighbors_of Edges n ends = edge_neighbors n ends

-- The outcome of colouring the items by a strategy, with presets.
abbrev pub greedy_of : Kind → Rule → ℕ → List ℕ → List ℕ → List ℕ → Outcome
greedy_of Nodes = greedy_nodes
greedy_of Edges = greedy_edges

-- How many edges stand at node w by the table, an edge itself not counted.
unfoldable pub count_at : Kind → List ℕ → List ℕ → ℕ → ℕ
count_at kind starts entries w = length (stretch starts entries w) - own_of kind

-- How many neighbours item v has by the table: those at its first node, and those at its second where that is another.
unfoldable pub neighbor_count : Kind → List ℕ → List ℕ → List ℕ → ℕ → ℕ
neighbor_count kind ends starts entries v =
    let first = first_node kind ends v in
    let second = second_node kind ends v in
    cond (eqb first second) (count_at kind starts entries first) (count_at kind starts entries first + count_at kind starts entries second)

-- The smallest free colour of item v by the table: of the first 512 the smallest at no far end of a node's edges, of the first 4,096 the smallest on no edge at an edge's ends.
unfoldable pub free_color : Kind → List ℕ → List ℕ → List ℕ → List ℕ → ℕ → ℕ
free_color Nodes ends starts entries colors v = smallest_from 512 (far_colors ends colors v (stretch starts entries v)) 0
free_color Edges ends starts entries colors v = smallest_from 4096 (colors_of colors (stretch starts entries (first_end ends v)) ++ colors_of colors (stretch starts entries (second_end ends v))) 0

-- A graph that passed the checks has this many items.
pub record Sized (kind : Kind) (n : ℕ) (ends : List ℕ) (items : ℕ) : Type 0 where
  pub passed : Passed n ends
  pub size : items ≡ items_of kind n ends

-- The same, with its table.
pub record Tabled (kind : Kind) (n : ℕ) (ends starts entries : List ℕ) (items : ℕ) : Type 0 where
  pub sized : Sized kind n ends items
  pub table : Table ends n starts entries
