-- Laws of one edge more: one for each answer, and its clause.
use Prim.Native.Nat.{ℕ, ◌-◌}
use mathlib.Core.Path.{◌≡◌, sym, ap, ◌∙◌}
use mathlib.Core.List.{List, ◌∷◌, ◌++◌, append_assoc}
use mathlib.Core.Bool.{Bool, true, not, ◌&&◌}
use mathlib.Core.Option.{some}
use lib.ListN.{length}
use lib.Dec.{eqb}
use borrow.Author.Tests.{eqb-true}
use Rattle.lists.proofs.Tests.{and_true}
use Rattle.graph.specs.Report.{Report, refused}
use Rattle.graph.specs.Check.{◌gives◌, first_refusal, graph_checks}
use Rattle.graph.proofs.CheckLaws.{refused_first, answered_refused, written_refused}
use Rattle.graph.specs.Edges.{edge_count}
use Rattle.graph.specs.Color.{Outcome, colored}
use Rattle.vizing.specs.MisraGries.{simple_checks}
use Rattle.vizing.specs.Demand3.{Admitted}
use Rattle.vizing.specs.AddEdge.{stored_checks, add_edge_checks, add_edge, EdgeAdded}
use Rattle.misra_gries.specs.Step.{stored_held, from_stored}
use Rattle.misra_gries.proofs.RunLaws.{last_step}
use Rattle.misra_gries.proofs.CallLaws.{MeetsFrom}
use Rattle.vizing.proofs.AddEdgeLaws.{colored_same, before_stored, add_edge_clause}

-- ---- the lengths

pub sizes_yes : (m stored lent : ℕ) (sized : Bool) → sized ≡ (eqb stored (m - 1) && eqb lent m) → sized ≡ true → (stored ≡ m - 1) × (lent ≡ m)
sizes_yes m stored lent sized s t = let r = and_true (eqb stored (m - 1)) (eqb lent m) (sym s ∙ t) in (eqb-true stored (m - 1) r.0, eqb-true lent m r.1)

-- ---- the answers

module _ (n : ℕ) (ends stored lent : List ℕ) where
  -- Report and slice are those of the definition.
  abbrev pub Meets : Report ℕ → List ℕ → Type 0
  Meets r colors = (r ≡ (add_edge n ends stored lent).report) × (colors ≡ (add_edge n ends stored lent).colors)

  refuses : (k : ℕ) → first_refusal (add_edge_checks n ends stored lent) ≡ some k → Meets (refused k) lent
  unfolding add_edge colored
  refuses k e = (answered_refused _ k _ e, written_refused _ k _ _ e)

  -- ---- a check before 11 refuses

  pub refused_before : (sized : Bool) → sized ≡ (eqb (length stored) (edge_count ends - 1) && eqb (length lent) (edge_count ends)) → (k : ℕ)
      → first_refusal (graph_checks n ends ++ (not sized gives 5) ∷ simple_checks ends) ≡ some k → Meets (refused k) lent
  unfolding add_edge_checks
  refused_before sized s k e =
      let earlier = (not sized gives 5) ∷ simple_checks ends in
      refuses k (rw (← s) (ap first_refusal (sym (append_assoc (graph_checks n ends) earlier (stored_checks n ends stored)))
      ∙ refused_first (graph_checks n ends ++ earlier) (stored_checks n ends stored) k e))

  -- ---- none does

  from_added : Admitted n ends → length stored ≡ edge_count ends - 1 → length lent ≡ edge_count ends → from_stored n ends stored lent ≡ add_edge n ends stored lent
  unfolding from_stored add_edge
  from_added a one_fewer size =
      colored_same (stored_checks n ends stored) (add_edge_checks n ends stored lent) lent _ _ (sym (before_stored n ends stored lent a one_fewer size)) (λ o. last_step n ends (length stored) one_fewer (stored_held stored))

  pub added_meets : Admitted n ends → (length stored ≡ edge_count ends - 1) × (length lent ≡ edge_count ends) → (r : Report ℕ) (colors : List ℕ) → MeetsFrom n ends stored lent r colors → Meets r colors
  added_meets a size r colors o = let e = from_added a size.0 size.1 in (o.0 ∙ ap (λ (x : Outcome). x.report) e, o.1 ∙ ap (λ (x : Outcome). x.colors) e)

  -- ---- the clause

  pub edge_added : (r : Report ℕ) (colors : List ℕ) → Meets r colors → EdgeAdded n ends stored lent r colors
  edge_added r colors o = rw (o.0, o.1) (add_edge_clause n ends stored lent)
