-- Laws of the call: its checks and outcome, and what its callers rely on.
use Prim.Native.Nat.{ℕ}
use mathlib.Core.Bool.{Bool, true, false, not, ◌&&◌, true≢false}
use mathlib.Core.List.{List, [], ◌∷◌, ◌++◌}
use mathlib.Core.Option.{none, some, Option}
use mathlib.Core.Path.{◌≡◌, ap, ◌∙◌, refl, sym, subst}
use lib.Dec.{eqb}
use lib.ListN.{length, replicate, length-replicate}
use borrow.Author.Tests.{eq-eqb, ne_eqb, eqb-true, not-false}
use mathlib.Core.Logic.{inl, inr}
use native.Mathlib.Omega.{arith}
use Rattle.lists.proofs.Tests.{by-test, and_true, dec_eq}
use Rattle.graph.specs.Report.{accepted, refused, number, report_of_checked, Report, Accepted}
use Rattle.graph.specs.Check.{Check, ◌gives◌, first_refusal, graph_checks, check_graph, Passed, length_check}
use Rattle.graph.proofs.CheckLaws.{passed, passes, refused_first, passed_first, passed_both, first_refuses, first_passes, all_passed, answered_refused, answered_accepted, written_refused, written_accepted, checked_refused, checked_accepted, graph_refused, graph_accepted, passed_inside}
use Rattle.graph.specs.Edges.{edge_count, neighbors, first_end, second_end}
use Rattle.graph.specs.Color.{days_of, colored, no_color}
use Rattle.graph.specs.declared.Refusal.{Refusal}
use Rattle.graph.specs.declared.Graph.{Graph}
use Rattle.std.specs.Prelude.{Result, Ok, Err}
use Rattle.greedy.specs.Call.{Rule, item_checks, check_items, greedy_items, check_nodes, greedy_nodes, edge_neighbors, check_edges, greedy_edges, greedy_items_plain, greedy_nodes_plain, greedy_edges_plain, PrecoloringKept, ProperNodeColoring, ProperEdgeColoring}
use Rattle.lists.specs.Member.{Mem}
use Rattle.graph.proofs.EdgeLaws.{far_first}
use Rattle.graph.proofs.NeighborLaws.{edge_neighbor}
use Rattle.graph.proofs.ColorLaws.{color_replicate}
use Rattle.greedy.specs.Greedy.{Neighborhood, Greedy}
use Rattle.greedy.proofs.TurnLaws.{node_neighborhood, edge_neighborhood, sharing_neighbor}

-- Laws of the checks and of the calls: one for each answer.

-- ---- the checks

module _ (n : ℕ) (ends : List ℕ) (items presets colors : ℕ) where
  -- Whether a length is wrong.
  abbrev wrong : Bool
  wrong = not (eqb colors items && eqb presets items)

  refuses : (k : ℕ) → first_refusal (item_checks n ends items presets colors) ≡ some k → refused k ≡ check_items n ends items presets colors
  unfolding check_items
  refuses k e = answered_refused (item_checks n ends items presets colors) k _ e

  pub check_refuses : (c : Result Graph Refusal) (r : Refusal) → report_of_checked c ≡ check_graph n ends → c ≡ Err r → refused (number r) ≡ check_items n ends items presets colors
  unfolding item_checks
  check_refuses c r e p = refuses (number r) (refused_first (graph_checks n ends) ((wrong gives 5) ∷ []) (number r) (graph_refused n ends c r e p))

  module _ (c : Result Graph Refusal) (g : Graph) (e : report_of_checked c ≡ check_graph n ends) (p : c ≡ Ok g) where
    after_graph_lem : first_refusal (item_checks n ends items presets colors) ≡ first_refusal ((wrong gives 5) ∷ [])
    unfolding item_checks
    after_graph_lem = passed_first (graph_checks n ends) ((wrong gives 5) ∷ []) (graph_accepted n ends c g e p).0

    pub colors_wrong : (colors ≡ items → ⊥) → refused 5 ≡ check_items n ends items presets colors
    colors_wrong h =
        let t : wrong ≡ true = simp (ne_eqb colors items h) in
        refuses 5 (after_graph_lem ∙ first_refuses wrong 5 [] t)

    pub presets_wrong : colors ≡ items → (presets ≡ items → ⊥) → refused 5 ≡ check_items n ends items presets colors
    presets_wrong k h =
        let t : wrong ≡ true = simp (eq-eqb colors items k, ne_eqb presets items h) in
        refuses 5 (after_graph_lem ∙ first_refuses wrong 5 [] t)

    pub checks_pass : colors ≡ items → presets ≡ items → accepted (g.nodes, g.edges) ≡ check_items n ends items presets colors
    unfolding check_items
    checks_pass k h =
        let q = graph_accepted n ends c g e p in
        let t : wrong ≡ false = simp (eq-eqb colors items k, eq-eqb presets items h) in
        rw (q.1, q.2) (answered_accepted (item_checks n ends items presets colors) (n, edge_count ends) (after_graph_lem ∙ (first_passes wrong 5 [] t ∙ all_passed)))

-- Presets of a wrong length are refused where the graph passes its checks.
pub presets_refused : (n : ℕ) (ends : List ℕ) (items presets colors : ℕ) (g : Graph) → report_of_checked (Ok g) ≡ check_graph n ends → colors ≡ items → (presets ≡ items → ⊥) → refused 5 ≡ check_items n ends items presets colors
presets_refused n ends items presets colors g e = presets_wrong n ends items presets colors (Ok g) g e refl

-- What the checks leave.
item_checks_passed : (n : ℕ) (ends : List ℕ) (items presets colors : ℕ) → first_refusal (item_checks n ends items presets colors) ≡ none → Passed n ends × (presets ≡ items) × (colors ≡ items)
unfolding item_checks
item_checks_passed n ends items presets colors e =
    let b = passed_both (graph_checks n ends) ((wrong n ends items presets colors gives 5) ∷ []) e in
    by-test (wrong n ends items presets colors)
    (λ t. let f = first_refuses (wrong n ends items presets colors) 5 [] t in absurd (true≢false (cc)))
    (λ t. let r = and_true (eqb colors items) (eqb presets items) (not-false (eqb colors items && eqb presets items) t) in (passed n ends b.0, eqb-true presets items r.1, eqb-true colors items r.0))

-- What passes them.
passed_item_checks : (n : ℕ) (ends : List ℕ) (items presets colors : ℕ) → Passed n ends → presets ≡ items → colors ≡ items → first_refusal (item_checks n ends items presets colors) ≡ none
unfolding item_checks
passed_item_checks n ends items presets colors p h k =
    let t : wrong n ends items presets colors ≡ false = simp (eq-eqb colors items k, eq-eqb presets items h) in
    passed_first (graph_checks n ends) ((wrong n ends items presets colors gives 5) ∷ []) (passes n ends p) ∙ (first_passes (wrong n ends items presets colors) 5 [] t ∙ all_passed)

-- ---- a call by a strategy, which makes these checks first

module _ (nb : ℕ → List ℕ) (items n : ℕ) (ends presets lent : List ℕ) where
  abbrev checks : List Check
  checks = item_checks n ends items (length presets) (length lent)

  module _ (rule : Rule) where
    items_refused : (k : ℕ) → first_refusal checks ≡ some k → (refused k ≡ (greedy_items rule nb items n ends presets lent).report) × (lent ≡ (greedy_items rule nb items n ends presets lent).colors)
    unfolding greedy_items colored
    items_refused k e = (answered_refused checks k _ e, written_refused checks k _ _ e)

    items_accepted : first_refusal checks ≡ none → (days : ℕ) (answer : List ℕ) → answer ≡ rule nb items presets → days ≡ days_of answer
        → (accepted days ≡ (greedy_items rule nb items n ends presets lent).report) × (answer ≡ (greedy_items rule nb items n ends presets lent).colors)
    unfolding greedy_items colored
    items_accepted e days answer a d = (ap accepted (d ∙ ap days_of a) ∙ answered_accepted checks _ e, a ∙ written_accepted checks _ _ e)

  module _ (c : Result Graph Refusal) (e : report_of_checked c ≡ check_items n ends items (length presets) (length lent)) where
    no_refusal : (g : Graph) → c ≡ Ok g → first_refusal checks ≡ none
    unfolding check_items
    no_refusal g p = (checked_accepted checks (n, edge_count ends) c g e p).0

    pub items_no : (rule : Rule) (r : Refusal) → c ≡ Err r → (refused (number r) ≡ (greedy_items rule nb items n ends presets lent).report) × (lent ≡ (greedy_items rule nb items n ends presets lent).colors)
    unfolding check_items
    items_no rule r p = items_refused rule (number r) (checked_refused checks (n, edge_count ends) c r e p)

    pub items_passed : (g : Graph) → c ≡ Ok g → Passed n ends × (length presets ≡ items) × (length lent ≡ items)
    items_passed g p = item_checks_passed n ends items (length presets) (length lent) (no_refusal g p)

    pub items_yes : (rule : Rule) (g : Graph) → c ≡ Ok g → (days : ℕ) (answer : List ℕ) → answer ≡ rule nb items presets → days ≡ days_of answer
        → (accepted days ≡ (greedy_items rule nb items n ends presets lent).report) × (answer ≡ (greedy_items rule nb items n ends presets lent).colors)
    items_yes rule g p = items_accepted rule (no_refusal g p)

-- ---- nodes

pub nodes_no : (rule : Rule) (n : ℕ) (ends presets lent : List ℕ) (c : Result Graph Refusal) (r : Refusal) → report_of_checked c ≡ check_nodes n ends (length presets) (length lent) → c ≡ Err r
    → (refused (number r) ≡ (greedy_nodes rule n ends presets lent).report) × (lent ≡ (greedy_nodes rule n ends presets lent).colors)
unfolding check_nodes greedy_nodes
nodes_no rule n ends presets lent c r e p = items_no (neighbors ends (edge_count ends)) n n ends presets lent c e rule r p

pub nodes_passed : (n : ℕ) (ends presets lent : List ℕ) (c : Result Graph Refusal) (g : Graph) → report_of_checked c ≡ check_nodes n ends (length presets) (length lent) → c ≡ Ok g
    → Passed n ends × (length presets ≡ n) × (length lent ≡ n)
unfolding check_nodes
nodes_passed n ends presets lent c g e p = items_passed (neighbors ends (edge_count ends)) n n ends presets lent c e g p

pub nodes_yes : (rule : Rule) (n : ℕ) (ends presets lent : List ℕ) (c : Result Graph Refusal) (g : Graph) → report_of_checked c ≡ check_nodes n ends (length presets) (length lent) → c ≡ Ok g
    → (days : ℕ) (answer : List ℕ) → answer ≡ rule (neighbors ends (edge_count ends)) n presets → days ≡ days_of answer
    → (accepted days ≡ (greedy_nodes rule n ends presets lent).report) × (answer ≡ (greedy_nodes rule n ends presets lent).colors)
unfolding check_nodes greedy_nodes
nodes_yes rule n ends presets lent c g e p = items_yes (neighbors ends (edge_count ends)) n n ends presets lent c e rule g p

-- ---- edges

pub edges_no : (rule : Rule) (n : ℕ) (ends presets lent : List ℕ) (c : Result Graph Refusal) (r : Refusal) → report_of_checked c ≡ check_edges n ends (length presets) (length lent) → c ≡ Err r
    → (refused (number r) ≡ (greedy_edges rule n ends presets lent).report) × (lent ≡ (greedy_edges rule n ends presets lent).colors)
unfolding check_edges greedy_edges
edges_no rule n ends presets lent c r e p = items_no (edge_neighbors n ends) (edge_count ends) n ends presets lent c e rule r p

pub edges_passed : (n : ℕ) (ends presets lent : List ℕ) (c : Result Graph Refusal) (g : Graph) → report_of_checked c ≡ check_edges n ends (length presets) (length lent) → c ≡ Ok g
    → Passed n ends × (length presets ≡ edge_count ends) × (length lent ≡ edge_count ends)
unfolding check_edges
edges_passed n ends presets lent c g e p = items_passed (edge_neighbors n ends) (edge_count ends) n ends presets lent c e g p

pub edges_yes : (rule : Rule) (n : ℕ) (ends presets lent : List ℕ) (c : Result Graph Refusal) (g : Graph) → report_of_checked c ≡ check_edges n ends (length presets) (length lent) → c ≡ Ok g
    → (days : ℕ) (answer : List ℕ) → answer ≡ rule (edge_neighbors n ends) (edge_count ends) presets → days ≡ days_of answer
    → (accepted days ≡ (greedy_edges rule n ends presets lent).report) × (answer ≡ (greedy_edges rule n ends presets lent).colors)
unfolding check_edges greedy_edges
edges_yes rule n ends presets lent c g e p = items_yes (edge_neighbors n ends) (edge_count ends) n ends presets lent c e rule g p

-- ---- what the callers rely on follows from the outcome, for every strategy whose colours are greedy; and the form without presets

-- A strategy whose colours are greedy.
abbrev pub GreedyRule : Rule → Type 0
GreedyRule rule = (nb : ℕ → List ℕ) (n : ℕ) → Neighborhood nb n → (presets : List ℕ) → length presets ≡ n → Greedy nb n presets (rule nb n presets)

-- ---- any items

-- Where a call accepts, the graph passed, and the colours are greedy.
record Answer (n : ℕ) (ends : List ℕ) (nb : ℕ → List ℕ) (items : ℕ) (presets colors : List ℕ) : Type 0 where
  passed : Passed n ends
  found : Greedy nb items presets colors

module _ (rule : Rule) (greedy : GreedyRule rule) (nb : ℕ → List ℕ) (items n : ℕ) (ends presets lent : List ℕ) (hood : Passed n ends → Neighborhood nb items) (r : Report ℕ) (colors : List ℕ)
    (a : r ≡ (greedy_items rule nb items n ends presets lent).report) (b : colors ≡ (greedy_items rule nb items n ends presets lent).colors) where
  accepts : (days : ℕ) → r ≡ accepted days → Answer n ends nb items presets colors
  accepts days e = go (first_refusal (item_checks n ends items (length presets) (length lent))) refl
    where
      go : (o : Option ℕ) → first_refusal (item_checks n ends items (length presets) (length lent)) ≡ o → Answer n ends nb items presets colors
      go (some k) p = let q = items_refused nb items n ends presets lent rule k p in let z : ◌≡◌ {A = ℕ} 0 1 = cc in absurd (omega arith)
      go none p =
          let c = item_checks_passed n ends items (length presets) (length lent) p in
          let q = items_accepted nb items n ends presets lent rule p _ (rule nb items presets) refl refl in
          record { passed = c.0; found = rw (b ∙ sym q.1) (greedy nb items (hood c.0) presets c.1) }

  accepts_all : Passed n ends → length presets ≡ items → length lent ≡ items → Accepted r
  accepts_all p h k = (_, a ∙ sym (items_accepted nb items n ends presets lent rule (passed_item_checks n ends items (length presets) (length lent) p h k) _ (rule nb items presets) refl refl).0)

  items_kept : PrecoloringKept items presets r colors
  items_kept = record { kept = λ days e v h d. (accepts days e).found.kept v h d }

-- ---- nodes

module _ (rule : Rule) (greedy : GreedyRule rule) (n : ℕ) (ends presets lent : List ℕ) (r : Report ℕ) (colors : List ℕ)
    (a : r ≡ (greedy_nodes rule n ends presets lent).report) (b : colors ≡ (greedy_nodes rule n ends presets lent).colors) where
  pub precoloring_kept : PrecoloringKept n presets r colors
  unfolding greedy_nodes
  precoloring_kept = items_kept rule greedy (neighbors ends (edge_count ends)) n n ends presets lent (node_neighborhood n ends) r colors a b

  node_answer : (days : ℕ) → r ≡ accepted days → Answer n ends (neighbors ends (edge_count ends)) n presets colors
  unfolding greedy_nodes
  node_answer = accepts rule greedy (neighbors ends (edge_count ends)) n n ends presets lent (node_neighborhood n ends) r colors a b

  pub nodes_accept : Passed n ends → length presets ≡ n → length lent ≡ n → Accepted r
  unfolding greedy_nodes
  nodes_accept = accepts_all rule greedy (neighbors ends (edge_count ends)) n n ends presets lent (node_neighborhood n ends) r colors a b

  pub proper_nodes : ProperNodeColoring n ends presets r colors
  proper_nodes = record {
    colored = λ days e v h. (node_answer days e).found.colored v h;
    differ = λ days e k h d free q.
        let s = node_answer days e in
        let i = passed_inside n ends s.passed k h in
        let w = subst (λ (x : ℕ). Mem x (neighbors ends (edge_count ends) (first_end ends k))) (far_first ends k (first_end ends k) refl) (edge_neighbor ends (edge_count ends) (first_end ends k) k h (inl refl)) in
        s.found.apart (first_end ends k) (second_end ends k) i.0 w (λ z. d (sym z)) free q;
  }

-- ---- edges

module _ (rule : Rule) (greedy : GreedyRule rule) (n : ℕ) (ends presets lent : List ℕ) (r : Report ℕ) (colors : List ℕ)
    (a : r ≡ (greedy_edges rule n ends presets lent).report) (b : colors ≡ (greedy_edges rule n ends presets lent).colors) where
  pub edge_precoloring_kept : PrecoloringKept (edge_count ends) presets r colors
  unfolding greedy_edges
  edge_precoloring_kept = items_kept rule greedy (edge_neighbors n ends) (edge_count ends) n ends presets lent (edge_neighborhood n ends) r colors a b

  edge_answer : (days : ℕ) → r ≡ accepted days → Answer n ends (edge_neighbors n ends) (edge_count ends) presets colors
  unfolding greedy_edges
  edge_answer = accepts rule greedy (edge_neighbors n ends) (edge_count ends) n ends presets lent (edge_neighborhood n ends) r colors a b

  pub edges_accept : Passed n ends → length presets ≡ edge_count ends → length lent ≡ edge_count ends → Accepted r
  unfolding greedy_edges
  edges_accept = accepts_all rule greedy (edge_neighbors n ends) (edge_count ends) n ends presets lent (edge_neighborhood n ends) r colors a b

  pub proper_edges : ProperEdgeColoring ends presets r colors
  proper_edges = record {
    colored = λ days e k h. (edge_answer days e).found.colored k h;
    differ = λ days e j k v h g d p q free.
        let s = edge_answer days e in
        s.found.apart j k h (sharing_neighbor n ends s.passed j k v h g d p q) (λ z. d (sym z)) free;
  }

-- ---- the form without presets

-- Where nothing is preset, which presets those are does not matter.
pub proper_nodes_without_presets : (n : ℕ) (ends : List ℕ) (r : Report ℕ) (colors : List ℕ) (k : ℕ) → ProperNodeColoring n ends (replicate k no_color) r colors → ProperNodeColoring n ends [] r colors
proper_nodes_without_presets n ends r colors k proper = record {
  colored = proper.colored;
  differ = λ days e j h d free. proper.differ days e j h d (inl (color_replicate k (first_end ends j)));
}

pub proper_edges_without_presets : (ends : List ℕ) (r : Report ℕ) (colors : List ℕ) (k : ℕ) → ProperEdgeColoring ends (replicate k no_color) r colors → ProperEdgeColoring ends [] r colors
proper_edges_without_presets ends r colors k apart = record {
  colored = apart.colored;
  differ = λ days e i j v h g d p q free. apart.differ days e i j v h g d p q (inl (color_replicate k i));
}

module _ (rule : Rule) (nb : ℕ → List ℕ) (items n : ℕ) (ends presets lent : List ℕ) where
  abbrev plain_checks : List Check
  plain_checks = graph_checks n ends ++ length_check (length lent) items ∷ []

  plain_refused : (k : ℕ) → first_refusal plain_checks ≡ some k → (refused k ≡ (greedy_items_plain rule nb items n ends lent).report) × (lent ≡ (greedy_items_plain rule nb items n ends lent).colors)
  unfolding greedy_items_plain colored
  plain_refused k e = (answered_refused plain_checks k _ e, written_refused plain_checks k _ _ e)

  plain_accepted : first_refusal plain_checks ≡ none → (accepted (days_of (rule nb items (replicate items no_color))) ≡ (greedy_items_plain rule nb items n ends lent).report) × (rule nb items (replicate items no_color) ≡ (greedy_items_plain rule nb items n ends lent).colors)
  unfolding greedy_items_plain colored
  plain_accepted e = (answered_accepted plain_checks _ e, written_accepted plain_checks _ _ e)

  -- Lent as many empty presets as there are colours, the form with presets answers what the form without them does.
  plain_same : (Passed n ends → length lent ≡ items → presets ≡ replicate items no_color)
      → ((greedy_items rule nb items n ends presets lent).report ≡ (greedy_items_plain rule nb items n ends lent).report) × ((greedy_items rule nb items n ends presets lent).colors ≡ (greedy_items_plain rule nb items n ends lent).colors)
  unfolding item_checks
  plain_same none-preset = go (first_refusal (graph_checks n ends)) refl
    where
      go : (o : Option ℕ) → first_refusal (graph_checks n ends) ≡ o
          → ((greedy_items rule nb items n ends presets lent).report ≡ (greedy_items_plain rule nb items n ends lent).report) × ((greedy_items rule nb items n ends presets lent).colors ≡ (greedy_items_plain rule nb items n ends lent).colors)
      go (some k) e =
          let x = items_refused nb items n ends presets lent rule k (refused_first (graph_checks n ends) ((not (eqb (length lent) items && eqb (length presets) items) gives 5) ∷ []) k e) in
          let y = plain_refused k (refused_first (graph_checks n ends) (length_check (length lent) items ∷ []) k e) in
          (sym x.0 ∙ y.0, sym x.1 ∙ y.1)
      go none e = elim (dec_eq (length lent) items) [
        | inr d ↦
            let t = ne_eqb (length lent) items d in
            let x = items_refused nb items n ends presets lent rule 5 (passed_first (graph_checks n ends) ((not (eqb (length lent) items && eqb (length presets) items) gives 5) ∷ []) e ∙ first_refuses (not (eqb (length lent) items && eqb (length presets) items)) 5 [] (simp t)) in
            let y = plain_refused 5 (passed_first (graph_checks n ends) (length_check (length lent) items ∷ []) e ∙ first_refuses (not (eqb (length lent) items)) 5 [] (simp t)) in
            (sym x.0 ∙ y.0, sym x.1 ∙ y.1)
        | inl l ↦
            let q : presets ≡ replicate items no_color = none-preset (passed n ends e) l in
            let t = eq-eqb (length lent) items l in
            let s = eq-eqb (length presets) items (ap length q ∙ length-replicate items no_color) in
            let x = items_accepted nb items n ends presets lent rule (passed_first (graph_checks n ends) ((not (eqb (length lent) items && eqb (length presets) items) gives 5) ∷ []) e ∙ (first_passes (not (eqb (length lent) items && eqb (length presets) items)) 5 [] (simp (t, s)) ∙ all_passed)) _ (rule nb items (replicate items no_color)) (ap (rule nb items) (sym q)) refl in
            let y = plain_accepted (passed_first (graph_checks n ends) (length_check (length lent) items ∷ []) e ∙ (first_passes (not (eqb (length lent) items)) 5 [] (simp t) ∙ all_passed)) in
            (sym x.0 ∙ y.0, sym x.1 ∙ y.1)
      ]

pub nodes_plain_same : (rule : Rule) (n : ℕ) (ends presets lent : List ℕ) → (Passed n ends → length lent ≡ n → presets ≡ replicate n no_color)
    → ((greedy_nodes rule n ends presets lent).report ≡ (greedy_nodes_plain rule n ends lent).report) × ((greedy_nodes rule n ends presets lent).colors ≡ (greedy_nodes_plain rule n ends lent).colors)
unfolding greedy_nodes greedy_nodes_plain
nodes_plain_same rule n ends presets lent = plain_same rule (neighbors ends (edge_count ends)) n n ends presets lent

pub edges_plain_same : (rule : Rule) (n : ℕ) (ends presets lent : List ℕ) → (Passed n ends → length lent ≡ edge_count ends → presets ≡ replicate (edge_count ends) no_color)
    → ((greedy_edges rule n ends presets lent).report ≡ (greedy_edges_plain rule n ends lent).report) × ((greedy_edges rule n ends presets lent).colors ≡ (greedy_edges_plain rule n ends lent).colors)
unfolding greedy_edges greedy_edges_plain
edges_plain_same rule n ends presets lent = plain_same rule (edge_neighbors n ends) (edge_count ends) n ends presets lent
