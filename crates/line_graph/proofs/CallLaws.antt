-- Laws of the call: one for each answer.
use Prim.Native.Nat.{ℕ, ◌≤◌, ◌<◌, ◌/◌}
use mathlib.Core.List.{List, [], ◌∷◌}
use mathlib.Core.Option.{some}
use mathlib.Core.Path.{◌≡◌, ap, ◌∙◌}
use native.Mathlib.Omega.{arith}
use lib.Dec.{ltb}
use lib.ListN.{length}
use borrow.Author.Tests.{lt-ltb, le-ltb}
use Rattle.graph.specs.Report.{accepted, refused}
use Rattle.graph.specs.Check.{◌gives◌, first_refusal, graph_checks, check_graph, Passed}
use Rattle.graph.proofs.CheckLaws.{passes, refused_first, passed_first, first_refuses, first_passes, all_passed, answered_refused, answered_accepted, written_refused, written_accepted}
use Rattle.graph.specs.Edges.{edge_count, degree}
use Rattle.graph.specs.Stretch.{stretch, Table}
use Rattle.graph.specs.Table.{over}
use Rattle.graph.proofs.NeighborLaws.{degree_bound}
use Rattle.graph.proofs.CheckedLaws.{refused_by_graph}
use Rattle.line_list.specs.LineList.{line_pairs, line_checks, line_graph}
use Rattle.line_graph.specs.WrittenPairs.{pairs_below}
use Rattle.line_graph.proofs.WrittenPairsLaws.{table_pairs}

-- A made table has at most 4,096 edges at a node.
pub few_edges : (n : ℕ) (ends starts entries : List ℕ) → Passed n ends → Table ends n starts entries → (v : ℕ) → v < n → length (stretch starts entries v) ≤ 4096
unfolding degree
few_edges n ends starts entries p table v h = omega (arith, p.edges, ap length (table.row v h), degree_bound ends (edge_count ends) v)

module _ (n : ℕ) (ends lent : List ℕ) where
  refuses : (k : ℕ) → first_refusal (line_checks n ends lent) ≡ some k → (refused k ≡ (line_graph n ends lent).report) × (lent ≡ (line_graph n ends lent).list)
  unfolding line_graph
  refuses k e = (answered_refused _ k _ e, written_refused _ k _ _ e)

  pub line_refused : (k : ℕ) → refused k ≡ check_graph n ends → (refused k ≡ (line_graph n ends lent).report) × (lent ≡ (line_graph n ends lent).list)
  unfolding line_checks
  line_refused k e = refuses k (refused_first (graph_checks n ends) _ k (refused_by_graph n ends k e))

  module _ (p : Passed n ends) (starts entries : List ℕ) (table : Table ends n starts entries) (total : ℕ) (e : total ≡ length (pairs_below starts entries n)) where
    same : pairs_below starts entries n ≡ line_pairs ends (edge_count ends) n
    same = table_pairs ends starts entries n table n (omega arith)

    after_graph_lem : first_refusal (line_checks n ends lent) ≡ first_refusal ((ltb (length lent) (length (line_pairs ends (edge_count ends) n)) gives 9) ∷ [])
    unfolding line_checks
    after_graph_lem = passed_first (graph_checks n ends) _ (passes n ends p)

    pub list_short : length lent < total → (refused 9 ≡ (line_graph n ends lent).report) × (lent ≡ (line_graph n ends lent).list)
    list_short h = refuses 9 (after_graph_lem ∙ first_refuses _ 9 [] (lt-ltb (length lent) (length (line_pairs ends (edge_count ends) n)) (omega (arith, ap length same))))

    pub list_written : (pairs : ℕ) (list : List ℕ) → total ≤ length lent → pairs ≡ total / 2 → list ≡ over (pairs_below starts entries n) lent
        → (accepted pairs ≡ (line_graph n ends lent).report) × (list ≡ (line_graph n ends lent).list)
    unfolding line_graph
    list_written pairs list h q r =
        let size = e ∙ ap length same in
        let f = after_graph_lem ∙ (first_passes _ 9 [] (le-ltb (length lent) (length (line_pairs ends (edge_count ends) n)) (omega arith)) ∙ all_passed) in
        (ap accepted (q ∙ ap (λ (t : ℕ). t / 2) size) ∙ answered_accepted _ _ f, (r ∙ ap (λ (l : List ℕ). over l lent) same) ∙ written_accepted _ _ _ f)
