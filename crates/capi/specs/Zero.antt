-- 0 means accepted, of every function that can refuse: a caller knows by the number alone. Stated here, proved as `zero_accepts` in proofs/ZeroLaws.
use Rattle.std.specs.Prelude.{ℕ, ◌≡◌, List}
use Rattle.graph.specs.Report.{Report, Accepted}
use Rattle.graph.specs.Table.{incidence_of}
use Rattle.two_color.specs.TwoColor.{two_color}
use Rattle.line_list.specs.LineList.{line_graph}
use Rattle.greedy.specs.Call.{Rule, greedy_nodes, greedy_nodes_plain, greedy_edges_plain}
use Rattle.vizing.specs.MisraGries.{misra_gries}
use Rattle.vizing.specs.AddEdge.{add_edge}
use Rattle.file_layout.specs.Outcomes.{read_file, write_file}
use Rattle.c_answer.specs.Answer.{code}
use Rattle.capi.specs.Strategy.{nodes_by_number, edges_by_number}

-- A caller knows by the number alone whether this outcome is an acceptance.
abbrev pub ZeroAccepts : {A : Type 0} → Report A → Type 0
ZeroAccepts report = code report ≡ 0 → Accepted report

-- It is so of each.
pub record EachZeroAccepts : Type 0 where
  pub read_file_zero : (bytes ends colors : List ℕ) → ZeroAccepts (read_file bytes ends colors).report
  pub incidence_zero : (n : ℕ) (ends starts entries : List ℕ) → ZeroAccepts (incidence_of n ends starts entries).report
  pub line_graph_zero : (n : ℕ) (ends list : List ℕ) → ZeroAccepts (line_graph n ends list).report
  pub two_color_zero : (n : ℕ) (ends colors : List ℕ) → ZeroAccepts (two_color n ends colors).report
  pub misra_gries_zero : (n : ℕ) (ends colors : List ℕ) → ZeroAccepts (misra_gries n ends colors).report
  pub add_edge_zero : (n : ℕ) (ends stored colors : List ℕ) → ZeroAccepts (add_edge n ends stored colors).report
  pub write_file_zero : (n : ℕ) (ends colors : List ℕ) (tags method : ℕ) (output : List ℕ) → ZeroAccepts (write_file n ends colors tags method output).report
  pub nodes_plain_zero : (n : ℕ) (ends : List ℕ) (rule : Rule) (colors : List ℕ) → ZeroAccepts (greedy_nodes_plain rule n ends colors).report
  pub edges_plain_zero : (n : ℕ) (ends : List ℕ) (rule : Rule) (colors : List ℕ) → ZeroAccepts (greedy_edges_plain rule n ends colors).report
  pub nodes_zero : (n : ℕ) (ends : List ℕ) (rule : Rule) (presets colors : List ℕ) → ZeroAccepts (greedy_nodes rule n ends presets colors).report
  pub nodes_by_number_zero : (n : ℕ) (ends : List ℕ) (number : ℕ) (presets colors : List ℕ) → ZeroAccepts (nodes_by_number number n ends presets colors).report
  pub edges_by_number_zero : (n : ℕ) (ends : List ℕ) (number : ℕ) (presets colors : List ℕ) → ZeroAccepts (edges_by_number number n ends presets colors).report
