-- The outcomes of greedy colouring, of nodes and of edges, and what the callers rely on.
use Rattle.std.specs.Prelude.{ℕ, ◌<◌, not, ◌&&◌, List, [], ◌∷◌, ◌++◌, ◌⊎◌, ◌≢◌, ◌≡◌, eqb, length, replicate}
use Rattle.graph.specs.Report.{Report, accepted}
use Rattle.graph.specs.Check.{Check, ◌gives◌, answered, graph_checks, length_check}
use Rattle.graph.specs.Edges.{edge_count, first_end, second_end, neighbors, At}
use Rattle.graph.specs.Color.{Outcome, colored, no_color}
use Rattle.line_list.specs.LineList.{line_pairs}
use Rattle.graph.specs.Colored.{color_of}
use Rattle.greedy.specs.declared.ColoringStrategy.{ColoringStrategy}
use Rattle.greedy.specs.Degree.{degree_colors}
use Rattle.greedy.specs.Saturation.{saturation_colors}
use Rattle.greedy.specs.IndependentSet.{independent_set_colors}
use Rattle.greedy.specs.declared.ColoringStrategy.TheVariants as S

-- A strategy: of the items' neighbours, their number and their presets, the colours.
abbrev pub Rule : Type 0
Rule = (ℕ → List ℕ) → ℕ → List ℕ → List ℕ

abbrev pub rule_of : ColoringStrategy → Rule
rule_of S.Degree = degree_colors
rule_of S.Saturation = saturation_colors
rule_of S.IndependentSet = independent_set_colors

-- ---- any items

-- "graph checks, then 5 unless colours and presets have length" as many as there are items: given both lengths.
unfoldable pub item_checks : ℕ → List ℕ → ℕ → ℕ → ℕ → List Check
item_checks n ends items presets colors = graph_checks n ends ++ (not (eqb colors items && eqb presets items) gives 5) ∷ []

-- These checks report n and m.
unfoldable pub check_items : ℕ → List ℕ → ℕ → ℕ → ℕ → Report (ℕ × ℕ)
check_items n ends items presets colors = answered (item_checks n ends items presets colors) (n, edge_count ends)

-- Colouring by a strategy, with presets.
unfoldable pub greedy_items : Rule → (ℕ → List ℕ) → ℕ → ℕ → List ℕ → List ℕ → List ℕ → Outcome
greedy_items rule nb items n ends presets colors = colored (item_checks n ends items (length presets) (length colors)) colors (rule nb items presets)

-- "The form without presets tests colours only."
unfoldable pub greedy_items_plain : Rule → (ℕ → List ℕ) → ℕ → ℕ → List ℕ → List ℕ → Outcome
greedy_items_plain rule nb items n ends colors = colored (graph_checks n ends ++ length_check (length colors) items ∷ []) colors (rule nb items (replicate items no_color))

-- ---- nodes

unfoldable pub check_nodes : ℕ → List ℕ → ℕ → ℕ → Report (ℕ × ℕ)
check_nodes n ends presets colors = check_items n ends n presets colors

unfoldable pub greedy_nodes : Rule → ℕ → List ℕ → List ℕ → List ℕ → Outcome
greedy_nodes rule n ends presets colors = greedy_items rule (neighbors ends (edge_count ends)) n n ends presets colors

unfoldable pub greedy_nodes_plain : Rule → ℕ → List ℕ → List ℕ → Outcome
greedy_nodes_plain rule n ends colors = greedy_items_plain rule (neighbors ends (edge_count ends)) n n ends colors

-- ---- edges: "the same with m for n"

-- "The strategies over the line graph, its pairs being the edge list"
unfoldable pub edge_neighbors : ℕ → List ℕ → ℕ → List ℕ
edge_neighbors n ends = let pairs = line_pairs ends (edge_count ends) n in neighbors pairs (edge_count pairs)

unfoldable pub check_edges : ℕ → List ℕ → ℕ → ℕ → Report (ℕ × ℕ)
check_edges n ends presets colors = check_items n ends (edge_count ends) presets colors

unfoldable pub greedy_edges : Rule → ℕ → List ℕ → List ℕ → List ℕ → Outcome
greedy_edges rule n ends presets colors = greedy_items rule (edge_neighbors n ends) (edge_count ends) n ends presets colors

unfoldable pub greedy_edges_plain : Rule → ℕ → List ℕ → List ℕ → Outcome
greedy_edges_plain rule n ends colors = greedy_items_plain rule (edge_neighbors n ends) (edge_count ends) n ends colors

-- ---- what callers rely on

-- The precolouring is kept: "Presets are set first and never altered", of nodes or of edges.
pub record PrecoloringKept (items : ℕ) (presets : List ℕ) (report : Report ℕ) (colors : List ℕ) : Type 0 where
  pub kept : (days : ℕ) → report ≡ accepted days → (v : ℕ) → v < items → color_of presets v ≢ no_color → color_of colors v ≡ color_of presets v

-- A proper colouring: neighbours differ. Two presets may be equal, and a node's own loop is no neighbour.
pub record ProperNodeColoring (n : ℕ) (ends presets : List ℕ) (report : Report ℕ) (colors : List ℕ) : Type 0 where
  -- every node has a colour,
  pub colored : (days : ℕ) → report ≡ accepted days → (v : ℕ) → v < n → color_of colors v ≢ no_color
  -- and the ends of an edge differ unless both are preset.
  pub differ : (days : ℕ) → report ≡ accepted days → (k : ℕ) → k < edge_count ends → first_end ends k ≢ second_end ends k
      → (color_of presets (first_end ends k) ≡ no_color) ⊎ (color_of presets (second_end ends k) ≡ no_color) → color_of colors (first_end ends k) ≢ color_of colors (second_end ends k)

-- A proper edge colouring: edges that share an end differ unless both are preset.
pub record ProperEdgeColoring (ends presets : List ℕ) (report : Report ℕ) (colors : List ℕ) : Type 0 where
  pub colored : (days : ℕ) → report ≡ accepted days → (k : ℕ) → k < edge_count ends → color_of colors k ≢ no_color
  pub differ : (days : ℕ) → report ≡ accepted days → (j k v : ℕ) → j < edge_count ends → k < edge_count ends → j ≢ k → At ends j v → At ends k v
      → (color_of presets j ≡ no_color) ⊎ (color_of presets k ≡ no_color) → color_of colors j ≢ color_of colors k
