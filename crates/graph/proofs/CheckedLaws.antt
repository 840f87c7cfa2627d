-- What a refusal of the graph checks says to a caller that goes on with other checks.
use Prim.Native.Nat.{ℕ}
use mathlib.Core.Path.{◌≡◌, refl, sym, ap, ◌∙◌}
use mathlib.Core.List.{List}
use mathlib.Core.Option.{Option, none, some}
use mathlib.Core.Logic.{◌⊎◌, inl, inr}
use native.Mathlib.Omega.{arith}
use Rattle.graph.specs.Report.{Report, accepted, refused}
use Rattle.graph.specs.Check.{Check, first_refusal, answered, graph_checks, check_graph}
use Rattle.graph.proofs.CheckLaws.{answered_refused, answered_accepted}

-- What is refused by a number is refused by the first check that refuses.
pub refused_by : {A : Type 0} (cs : List Check) (values : A) (k : ℕ) → refused k ≡ answered cs values → first_refusal cs ≡ some k
refused_by cs values k e = go (first_refusal cs) refl
  where
    go : (o : Option ℕ) → first_refusal cs ≡ o → first_refusal cs ≡ some k
    go none q = let a = answered_accepted cs values q in let z : ◌≡◌ {A = ℕ} 0 1 = cc in absurd (omega arith)
    go (some j) q = let a = answered_refused cs j values q in let i : k ≡ j = cc in q ∙ ap some (sym i)

pub refused_by_graph : (n : ℕ) (ends : List ℕ) (k : ℕ) → refused k ≡ check_graph n ends → first_refusal (graph_checks n ends) ≡ some k
unfolding check_graph
refused_by_graph n ends k e = refused_by (graph_checks n ends) _ k e
