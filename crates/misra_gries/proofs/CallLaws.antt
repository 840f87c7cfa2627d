-- Laws of what both calls share, and of the whole call: one for each answer, and demand 3.
use Prim.Native.Nat.{ℕ, ◌-◌}
use mathlib.Core.Path.{◌≡◌, sym, ap, ◌∙◌}
use native.Mathlib.Omega.{arith}
use mathlib.Core.List.{List, [], ◌∷◌, ◌++◌}
use mathlib.Core.Bool.{not}
use mathlib.Core.Option.{some}
use lib.ListN.{length, take}
use lib.Dec.{eqb}
use Rattle.graph.specs.Report.{Report, accepted, refused}
use Rattle.graph.specs.Check.{◌gives◌, first_refusal, graph_checks}
use Rattle.graph.proofs.CheckLaws.{answered_refused, answered_accepted, written_refused, written_accepted}
use Rattle.graph.specs.Edges.{edge_count}
use Rattle.graph.specs.Color.{Outcome, colored, days_of}
use Rattle.vizing.specs.MisraGries.{simple_checks, misra_gries_checks, misra_gries}
use Rattle.vizing.specs.Demand3.{Admitted}
use Rattle.vizing.specs.Clause.{VizingColoring}
use Rattle.vizing.proofs.ClauseLaws.{misra_gries_clause}
use Rattle.vizing.proofs.Theorem.{checks_pass}
use Rattle.vizing.specs.AddEdge.{stored_checks, ProperlyStored}
use Rattle.vizing.proofs.AddEdgeLaws.{proper_passes, improper_refused, colored_same}
use Rattle.misra_gries.specs.Step.{steps_from, stored_held, from_stored}
use Rattle.misra_gries.proofs.RunLaws.{whole_run}

-- ---- all edges but those whose colours are stored

module _ (n : ℕ) (ends stored lent : List ℕ) where
  -- Report and slice are those of `from_stored`.
  abbrev pub MeetsFrom : Report ℕ → List ℕ → Type 0
  MeetsFrom r colors = (r ≡ (from_stored n ends stored lent).report) × (colors ≡ (from_stored n ends stored lent).colors)

  abbrev rest : List ℕ
  rest = take (edge_count ends) (steps_from ends (edge_count ends) n (stored_held stored) (length stored) (edge_count ends - length stored)).list

  pub from_refused : (ProperlyStored n ends stored → ⊥) → MeetsFrom (refused 11) lent
  unfolding from_stored colored
  from_refused improper = let e = improper_refused n ends stored improper in (answered_refused _ 11 _ e, written_refused _ 11 _ _ e)

  pub from_accepted : ProperlyStored n ends stored → (days : ℕ) (colors : List ℕ) → days ≡ days_of rest → colors ≡ rest → MeetsFrom (accepted days) colors
  unfolding from_stored colored
  from_accepted P days colors d e = let o = proper_passes n ends stored P in (ap accepted d ∙ answered_accepted _ _ o, e ∙ written_accepted _ _ _ o)

-- Where nothing is stored it is the whole call's outcome.
from_whole : (n : ℕ) (ends lent : List ℕ) → Admitted n ends → length lent ≡ edge_count ends → from_stored n ends [] lent ≡ misra_gries n ends lent
unfolding from_stored misra_gries
from_whole n ends lent a size = colored_same (stored_checks n ends []) (misra_gries_checks n ends lent) lent _ _ (proper_passes n ends [] nothing ∙ sym (checks_pass n ends lent a size)) (λ o. whole_run n ends)
  where
    nothing : ProperlyStored n ends []
    nothing = record { range = λ j h. absurd (omega arith); sharing = λ i j v p q. absurd (omega (arith, p.0)) }

-- ---- the whole call

module _ (n : ℕ) (ends lent : List ℕ) where
  -- Report and slice are those of the definition.
  abbrev pub Meets : Report ℕ → List ℕ → Type 0
  Meets r colors = (r ≡ (misra_gries n ends lent).report) × (colors ≡ (misra_gries n ends lent).colors)

  -- The checks that refuse are those of the list, with the test of the slice's length between them.
  pub refuses : (k : ℕ) → first_refusal (graph_checks n ends ++ (not (eqb (length lent) (edge_count ends)) gives 5) ∷ simple_checks ends) ≡ some k → Meets (refused k) lent
  unfolding misra_gries colored misra_gries_checks
  refuses k e = (answered_refused _ k _ e, written_refused _ k _ _ e)

  pub whole_meets : Admitted n ends → length lent ≡ edge_count ends → (r : Report ℕ) (colors : List ℕ) → MeetsFrom n ends [] lent r colors → Meets r colors
  whole_meets a size r colors o = let e = from_whole n ends lent a size in (o.0 ∙ ap (λ (x : Outcome). x.report) e, o.1 ∙ ap (λ (x : Outcome). x.colors) e)

  -- ---- demand 3

  pub vizing_coloring : (r : Report ℕ) (colors : List ℕ) → Meets r colors → VizingColoring n ends lent r colors
  vizing_coloring r colors o = rw (o.0, o.1) (misra_gries_clause n ends lent)
