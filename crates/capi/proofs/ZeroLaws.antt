-- 0 means accepted, of every function that can refuse: no check refuses by 0.
use Rattle.std.specs.Prelude.{ℕ, ◌≡◌, List, [], ◌∷◌, ◌++◌, Bool, true, ltb, length}
use Rattle.std.proofs.Math.Path.{refl}
use Rattle.std.proofs.Common.{sym, ap, ◌∙◌, arith, ltb-true}
use Rattle.std.proofs.Math.Option.{Option, none, some}
use Rattle.graph.specs.Report.{Accepted}
use Rattle.graph.specs.Check.{Check, ◌gives◌, first_refusal, answered, graph_checks, length_check, numbers_pass}
use Rattle.graph.proofs.CheckLaws.{refusal_passes, answered_accepted, answered_refused}
use Rattle.graph.specs.Edges.{edge_count, neighbors}
use Rattle.graph.specs.Table.{incidence_checks, incidence_of}
use Rattle.graph.specs.Color.{Outcome, colored}
use Rattle.two_color.specs.Sides.{odd_cycle}
use Rattle.two_color.specs.TwoColor.{input_checks, two_color}
use Rattle.line_list.specs.LineList.{line_checks, line_graph}
use Rattle.greedy.specs.Call.{Rule, rule_of, item_checks, greedy_items, greedy_items_plain, greedy_nodes, greedy_nodes_plain, edge_neighbors, greedy_edges, greedy_edges_plain}
use Rattle.greedy.specs.declared.ColoringStrategy.{ColoringStrategy}
use Rattle.vizing.specs.MisraGries.{misra_gries_checks, misra_gries}
use Rattle.vizing.specs.AddEdge.{stored_checks, add_edge_checks, add_edge}
use Rattle.file_layout.specs.Outcomes.{read_checks, read_file, write_checks, write_file}
use Rattle.c_answer.specs.Answer.{code}
use Rattle.c_answer.specs.Strategy.{strategy_of}
use Rattle.capi.specs.Strategy.{unknown_strategy, by_number, nodes_by_number, edges_by_number}
use Rattle.capi.specs.Zero.{ZeroAccepts, EachZeroAccepts}

-- Every check of a list refuses by a number above 0.
abbrev above_zero : List Check → Bool
above_zero checks = numbers_pass (ltb 0) checks

zero_accepted : {A : Type 0} (checks : List Check) (values : A) → above_zero checks ≡ true → code (answered checks values) ≡ 0 → Accepted (answered checks values)
zero_accepted checks values a e = go (first_refusal checks) refl
  where
    go : (o : Option ℕ) → first_refusal checks ≡ o → Accepted (answered checks values)
    go none f = (values, sym (answered_accepted checks values f))
    go (some k) f = let q : k ≡ 0 = ap code (answered_refused checks k values f) ∙ e in absurd (omega (arith, ltb-true 0 k (refusal_passes (ltb 0) checks k a f)))

pub read_file_zero : (bytes ends colors : List ℕ) → ZeroAccepts (read_file bytes ends colors).report
unfolding read_file read_checks numbers_pass
read_file_zero bytes ends colors = zero_accepted (read_checks bytes ends colors) _ refl

module _ (n : ℕ) (ends : List ℕ) where
  pub incidence_zero : (starts entries : List ℕ) → ZeroAccepts (incidence_of n ends starts entries).report
  unfolding incidence_of incidence_checks graph_checks numbers_pass
  incidence_zero starts entries = zero_accepted (incidence_checks n ends starts entries) _ refl

  pub line_graph_zero : (list : List ℕ) → ZeroAccepts (line_graph n ends list).report
  unfolding line_graph line_checks graph_checks numbers_pass
  line_graph_zero list = zero_accepted (line_checks n ends list) _ refl

  pub two_color_zero : (colors : List ℕ) → ZeroAccepts (two_color n ends colors).report
  unfolding two_color input_checks graph_checks colored numbers_pass
  two_color_zero colors = zero_accepted (input_checks n ends colors ++ (odd_cycle ends (edge_count ends) gives 8) ∷ []) _ refl

  pub misra_gries_zero : (colors : List ℕ) → ZeroAccepts (misra_gries n ends colors).report
  unfolding misra_gries misra_gries_checks graph_checks colored numbers_pass
  misra_gries_zero colors = zero_accepted (misra_gries_checks n ends colors) _ refl

  pub add_edge_zero : (stored colors : List ℕ) → ZeroAccepts (add_edge n ends stored colors).report
  unfolding add_edge add_edge_checks stored_checks graph_checks colored numbers_pass
  add_edge_zero stored colors = zero_accepted (add_edge_checks n ends stored colors) _ refl

  pub write_file_zero : (colors : List ℕ) (tags method : ℕ) (output : List ℕ) → ZeroAccepts (write_file n ends colors tags method output).report
  unfolding write_file write_checks graph_checks numbers_pass
  write_file_zero colors tags method output = zero_accepted (write_checks n ends colors tags method output) _ refl

  -- ---- greedy colouring

  module _ (rule : Rule) (nb : ℕ → List ℕ) (items : ℕ) where
    items_zero : (presets colors : List ℕ) → ZeroAccepts (greedy_items rule nb items n ends presets colors).report
    unfolding greedy_items item_checks graph_checks colored numbers_pass
    items_zero presets colors = zero_accepted (item_checks n ends items (length presets) (length colors)) _ refl

    plain_zero : (colors : List ℕ) → ZeroAccepts (greedy_items_plain rule nb items n ends colors).report
    unfolding greedy_items_plain graph_checks colored numbers_pass
    plain_zero colors = zero_accepted (graph_checks n ends ++ length_check (length colors) items ∷ []) _ refl

  pub nodes_plain_zero : (rule : Rule) (colors : List ℕ) → ZeroAccepts (greedy_nodes_plain rule n ends colors).report
  unfolding greedy_nodes_plain
  nodes_plain_zero rule = plain_zero rule (neighbors ends (edge_count ends)) n

  pub edges_plain_zero : (rule : Rule) (colors : List ℕ) → ZeroAccepts (greedy_edges_plain rule n ends colors).report
  unfolding greedy_edges_plain
  edges_plain_zero rule = plain_zero rule (edge_neighbors n ends) (edge_count ends)

  pub nodes_zero : (rule : Rule) (presets colors : List ℕ) → ZeroAccepts (greedy_nodes rule n ends presets colors).report
  unfolding greedy_nodes
  nodes_zero rule = items_zero rule (neighbors ends (edge_count ends)) n

  edges_zero : (rule : Rule) (presets colors : List ℕ) → ZeroAccepts (greedy_edges rule n ends presets colors).report
  unfolding greedy_edges
  edges_zero rule = items_zero rule (edge_neighbors n ends) (edge_count ends)

  unknown_zero : (items : ℕ) (presets colors : List ℕ) → ZeroAccepts (unknown_strategy items n ends presets colors).report
  unfolding unknown_strategy item_checks graph_checks colored numbers_pass
  unknown_zero items presets colors = zero_accepted (item_checks n ends items (length presets) (length colors) ++ (true gives 255) ∷ []) _ refl

  by_number_zero : (number : ℕ) (call : Rule → Outcome) (other : Outcome) → ((rule : Rule) → ZeroAccepts (call rule).report) → ZeroAccepts other.report → ZeroAccepts (by_number number call other).report
  unfolding by_number
  by_number_zero number call other known unknown = go (strategy_of number) refl
    where
      go : (o : Option ColoringStrategy) → strategy_of number ≡ o → ZeroAccepts (by_number number call other).report
      go none e = rw (e, by_number) unknown
      go (some strategy) e = rw (e, by_number) (known (rule_of strategy))

  pub nodes_by_number_zero : (number : ℕ) (presets colors : List ℕ) → ZeroAccepts (nodes_by_number number n ends presets colors).report
  nodes_by_number_zero number presets colors = by_number_zero number (λ rule. greedy_nodes rule n ends presets colors) (unknown_strategy n n ends presets colors) (λ rule. nodes_zero rule presets colors) (unknown_zero n presets colors)

  pub edges_by_number_zero : (number : ℕ) (presets colors : List ℕ) → ZeroAccepts (edges_by_number number n ends presets colors).report
  edges_by_number_zero number presets colors = by_number_zero number (λ rule. greedy_edges rule n ends presets colors) (unknown_strategy (edge_count ends) n ends presets colors) (λ rule. edges_zero rule presets colors) (unknown_zero (edge_count ends) presets colors)

-- ---- all of them

pub zero_accepts : EachZeroAccepts
zero_accepts = record { read_file_zero = read_file_zero; incidence_zero = incidence_zero; line_graph_zero = line_graph_zero; two_color_zero = two_color_zero; misra_gries_zero = misra_gries_zero; add_edge_zero = add_edge_zero; write_file_zero = write_file_zero; nodes_plain_zero = nodes_plain_zero; edges_plain_zero = edges_plain_zero; nodes_zero = nodes_zero; nodes_by_number_zero = nodes_by_number_zero; edges_by_number_zero = edges_by_number_zero }
