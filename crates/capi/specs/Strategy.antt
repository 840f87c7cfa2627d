-- A call by the strategy of a number.
use Rattle.std.specs.Prelude.{ℕ, true, List, [], ◌∷◌, ◌++◌, length}
use Rattle.std.proofs.Math.Option.{none, some}
use Rattle.graph.specs.Check.{◌gives◌}
use Rattle.graph.specs.Color.{Outcome, colored}
use Rattle.graph.specs.Edges.{edge_count}
use Rattle.greedy.specs.Call.{Rule, rule_of, item_checks, greedy_nodes, greedy_edges}
use Rattle.c_answer.specs.Strategy.{strategy_of}

-- A number of no strategy is answered by 255 where the graph checks and 5 pass: given how many items there are.
unfoldable pub unknown_strategy : ℕ → ℕ → List ℕ → List ℕ → List ℕ → Outcome
unknown_strategy items n ends presets colors = colored (item_checks n ends items (length presets) (length colors) ++ (true gives 255) ∷ []) colors colors

-- The call by the strategy of this number, or else the other outcome.
unfoldable pub by_number : ℕ → (Rule → Outcome) → Outcome → Outcome
by_number number call other = elim (strategy_of number) [ none ↦ other | some strategy ↦ call (rule_of strategy) ]

abbrev pub nodes_by_number : ℕ → ℕ → List ℕ → List ℕ → List ℕ → Outcome
nodes_by_number number n ends presets colors = by_number number (λ rule. greedy_nodes rule n ends presets colors) (unknown_strategy n n ends presets colors)

abbrev pub edges_by_number : ℕ → ℕ → List ℕ → List ℕ → List ℕ → Outcome
edges_by_number number n ends presets colors = by_number number (λ rule. greedy_edges rule n ends presets colors) (unknown_strategy (edge_count ends) n ends presets colors)
