-- Laws of a call that colours items of either kind: one for each answer.
use Prim.Native.Nat.{ℕ}
use mathlib.Core.Path.{◌≡◌, refl}
use mathlib.Core.List.{List}
use lib.ListN.{length}
use Rattle.graph.specs.Report.{accepted, refused, number, report_of_checked}
use Rattle.graph.specs.Check.{Passed}
use Rattle.graph.specs.Color.{days_of}
use Rattle.graph.specs.declared.Refusal.{Refusal}
use Rattle.graph.specs.declared.Graph.{Graph}
use Rattle.std.specs.Prelude.{Result, Ok, Err}
use Rattle.greedy.specs.Call.{Rule, check_items, check_nodes, check_edges, greedy_items, greedy_nodes, greedy_edges}
use Rattle.greedy.proofs.CallLaws.{nodes_no, nodes_passed, nodes_yes, edges_no, edges_passed, edges_yes}
use Rattle.items.specs.declared.Kind.{Kind}
use Rattle.items.specs.declared.Kind.TheVariants.{Nodes, Edges}
use Rattle.items.specs.Items.{items_of, neighbors_of, greedy_of}

-- Of either kind the outcome is the strategy's over the items and their neighbours.
pub greedy_of_lem : (kind : Kind) (rule : Rule) (n : ℕ) (ends presets lent : List ℕ) → greedy_of kind rule n ends presets lent ≡ greedy_items rule (neighbors_of kind n ends) (items_of kind n ends) n ends presets lent
unfolding greedy_nodes greedy_edges neighbors_of
greedy_of_lem Nodes rule n ends presets lent = refl
greedy_of_lem Edges rule n ends presets lent = refl

-- The call's answers: by kind those of nodes and of edges.
pub call_refused : (kind : Kind) (n : ℕ) (ends presets lent : List ℕ) (c : Result Graph Refusal) (e : report_of_checked c ≡ check_items n ends (items_of kind n ends) (length presets) (length lent)) (rule : Rule) (r : Refusal) → c ≡ Err r
    → (refused (number r) ≡ (greedy_of kind rule n ends presets lent).report) × (lent ≡ (greedy_of kind rule n ends presets lent).colors)
unfolding check_nodes check_edges
call_refused Nodes n ends presets lent c e rule r p = nodes_no rule n ends presets lent c r e p
call_refused Edges n ends presets lent c e rule r p = edges_no rule n ends presets lent c r e p

pub call_passed : (kind : Kind) (n : ℕ) (ends presets lent : List ℕ) (c : Result Graph Refusal) (e : report_of_checked c ≡ check_items n ends (items_of kind n ends) (length presets) (length lent)) (g : Graph) → c ≡ Ok g
    → Passed n ends × (length presets ≡ items_of kind n ends) × (length lent ≡ items_of kind n ends)
unfolding check_nodes check_edges
call_passed Nodes n ends presets lent c e g p = nodes_passed n ends presets lent c g e p
call_passed Edges n ends presets lent c e g p = edges_passed n ends presets lent c g e p

pub call_accepted : (kind : Kind) (n : ℕ) (ends presets lent : List ℕ) (c : Result Graph Refusal) (e : report_of_checked c ≡ check_items n ends (items_of kind n ends) (length presets) (length lent)) (rule : Rule) (g : Graph) → c ≡ Ok g
    → (days : ℕ) (answer : List ℕ) → answer ≡ rule (neighbors_of kind n ends) (items_of kind n ends) presets → days ≡ days_of answer
    → (accepted days ≡ (greedy_of kind rule n ends presets lent).report) × (answer ≡ (greedy_of kind rule n ends presets lent).colors)
unfolding check_nodes check_edges neighbors_of
call_accepted Nodes n ends presets lent c e rule g p = nodes_yes rule n ends presets lent c g e p
call_accepted Edges n ends presets lent c e rule g p = edges_yes rule n ends presets lent c g e p
