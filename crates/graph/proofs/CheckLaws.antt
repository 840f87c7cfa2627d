-- Laws of the checks: what each test of the code decides, what a passed graph is, and checks that follow others.
use Prim.Native.Nat.{ℕ, ◌+◌, ◌*◌, ◌≤◌, ◌<◌, ◌%◌, ◌/◌}
use mathlib.Core.Path.{◌≡◌, refl, sym, ap, ◌∙◌}
use mathlib.Core.List.{List, [], ◌∷◌, ◌++◌}
use mathlib.Core.Logic.{◌⊎◌, inl, inr}
use mathlib.Core.Bool.{Bool, true, false, not}
use mathlib.Core.Option.{Option, none, some}
use native.Mathlib.Omega.{arith}
use lib.ListN.{length}
use lib.Dec.{ltb, eqb}
use borrow.Author.Tests.{lt-ltb, le-ltb, eq-eqb, ne_eqb, ltb-false, eqb-true, eqb-false, not-false}
use Rattle.lists.proofs.Tests.{by-test, and_true}
use Rattle.lists.specs.Search.{all_below}
use Rattle.lists.proofs.SearchLaws.{all_below_at, below_all}
use Rattle.graph.specs.Report.{accepted, refused, number, report_of_checked}
use Rattle.graph.specs.Check.{Check, ◌gives◌, first_refusal, answered, written, graph_checks, length_check, check_graph, numbers_pass, Passed}
use Rattle.graph.specs.Edges.{edge_count, first_end, second_end}
use Rattle.graph.specs.declared.Refusal.{Refusal}
use Rattle.graph.specs.declared.Graph.{Graph}
use Rattle.std.specs.Prelude.{Result, Ok, Err}

-- ---- one answer of the graph checks each

pub too_many_nodes : (n : ℕ) (ends : List ℕ) → 512 < n → refused 1 ≡ check_graph n ends
unfolding check_graph answered graph_checks first_refusal
too_many_nodes n ends h = simp (lt-ltb _ _ h)

pub odd_ends : (n : ℕ) (ends : List ℕ) → n ≤ 512 → length ends % 2 ≡ 1 → refused 2 ≡ check_graph n ends
unfolding check_graph answered graph_checks first_refusal
odd_ends n ends h₁ h₂ = simp (le-ltb _ _ h₁, eq-eqb _ _ h₂)

pub too_many_ends : (n : ℕ) (ends : List ℕ) → n ≤ 512 → (length ends % 2 ≡ 1 → ⊥) → 8192 < length ends → refused 3 ≡ check_graph n ends
unfolding check_graph answered graph_checks first_refusal
too_many_ends n ends h₁ h₂ h₃ = simp (le-ltb _ _ h₁, ne_eqb _ _ h₂, lt-ltb _ _ h₃)

pub end_outside : (n : ℕ) (ends : List ℕ) (r : Bool) → n ≤ 512 → (length ends % 2 ≡ 1 → ⊥) → length ends ≤ 8192 → r ≡ all_below n ends → r ≡ false → refused 4 ≡ check_graph n ends
unfolding check_graph answered graph_checks first_refusal
end_outside n ends r h₁ h₂ h₃ h₄ h₅ = simp (le-ltb _ _ h₁, ne_eqb _ _ h₂, le-ltb _ _ h₃, sym h₄ ∙ h₅)

pub graph_passes : (n : ℕ) (ends : List ℕ) (r : Bool) (a b : ℕ) → n ≤ 512 → (length ends % 2 ≡ 1 → ⊥) → length ends ≤ 8192 → r ≡ all_below n ends → r ≡ true → a ≡ n → b ≡ length ends / 2 → accepted (a, b) ≡ check_graph n ends
unfolding check_graph answered graph_checks first_refusal
graph_passes n ends r a b h₁ h₂ h₃ h₄ h₅ p q = simp (p, q, le-ltb _ _ h₁, ne_eqb _ _ h₂, le-ltb _ _ h₃, sym h₄ ∙ h₅)

-- ---- checks in a row

pub refused_first : (cs ds : List Check) (k : ℕ) → first_refusal cs ≡ some k → first_refusal (cs ++ ds) ≡ some k
unfolding first_refusal
refused_first [] ds k e = let z : ◌≡◌ {A = ℕ} 0 1 = cc in absurd (omega arith)
refused_first ((true gives j) ∷ cs) ds k e = e
refused_first ((false gives j) ∷ cs) ds k e = refused_first cs ds k e

pub passed_first : (cs ds : List Check) → first_refusal cs ≡ none → first_refusal (cs ++ ds) ≡ first_refusal ds
unfolding first_refusal
passed_first [] ds e = refl
passed_first ((true gives j) ∷ cs) ds e = let z : ◌≡◌ {A = ℕ} 0 1 = cc in absurd (omega arith)
passed_first ((false gives j) ∷ cs) ds e = passed_first cs ds e

-- Checks in a row that all pass.
pub passed_both : (cs ds : List Check) → first_refusal (cs ++ ds) ≡ none → (first_refusal cs ≡ none) × (first_refusal ds ≡ none)
unfolding first_refusal
passed_both [] ds e = (refl, e)
passed_both ((true gives j) ∷ cs) ds e = let z : ◌≡◌ {A = ℕ} 0 1 = cc in absurd (omega arith)
passed_both ((false gives j) ∷ cs) ds e = passed_both cs ds e

-- So does the number of the first that refuses.
pub refusal_passes : (test : ℕ → Bool) (checks : List Check) (k : ℕ) → numbers_pass test checks ≡ true → first_refusal checks ≡ some k → test k ≡ true
unfolding numbers_pass first_refusal
refusal_passes test [] k a e = let z : ◌≡◌ {A = ℕ} 0 1 = cc in absurd (omega arith)
refusal_passes test ((true gives j) ∷ checks) k a e = let i : j ≡ k = cc in rw i at (and_true (test j) (numbers_pass test checks) a).0
refusal_passes test ((false gives j) ∷ checks) k a e = refusal_passes test checks k (and_true (test j) (numbers_pass test checks) a).1 e

pub first_refuses : (b : Bool) (k : ℕ) (cs : List Check) → b ≡ true → first_refusal ((b gives k) ∷ cs) ≡ some k
unfolding first_refusal
first_refuses b k cs e = simp e

pub first_passes : (b : Bool) (k : ℕ) (cs : List Check) → b ≡ false → first_refusal ((b gives k) ∷ cs) ≡ first_refusal cs
unfolding first_refusal
first_passes b k cs e = simp e

-- A check in front that passed, and the rest.
pub passed_one : (b : Bool) (k : ℕ) (cs : List Check) → first_refusal ((b gives k) ∷ cs) ≡ none → (b ≡ false) × (first_refusal cs ≡ none)
unfolding first_refusal
passed_one true k cs e = let z : ◌≡◌ {A = ℕ} 0 1 = cc in absurd (omega arith)
passed_one false k cs e = (refl, e)

pub all_passed : first_refusal [] ≡ none
unfolding first_refusal
all_passed = refl

module _ {A : Type 0} (cs : List Check) where
  pub answered_refused : (k : ℕ) (values : A) → first_refusal cs ≡ some k → refused k ≡ answered cs values
  unfolding answered
  answered_refused k values e = rw (e, answered)

  pub answered_accepted : (values : A) → first_refusal cs ≡ none → accepted values ≡ answered cs values
  unfolding answered
  answered_accepted values e = rw (e, answered)

  pub written_refused : (k : ℕ) (before after : A) → first_refusal cs ≡ some k → before ≡ written cs before after
  unfolding written
  written_refused k before after e = rw (e, written)

  pub written_accepted : (before after : A) → first_refusal cs ≡ none → after ≡ written cs before after
  unfolding written
  written_accepted before after e = rw (e, written)

-- ---- a graph that passed

pub passed : (n : ℕ) (ends : List ℕ) → first_refusal (graph_checks n ends) ≡ none → Passed n ends
unfolding graph_checks first_refusal
passed n ends e =
    by-test (ltb 512 n) (λ t. let z : ◌≡◌ {A = ℕ} 0 1 = cc (simp t at e) in absurd (omega arith)) (λ t₁.
    by-test (eqb (length ends % 2) 1) (λ t. let z : ◌≡◌ {A = ℕ} 0 1 = cc (simp (t₁, t) at e) in absurd (omega arith)) (λ t₂.
    by-test (ltb 8192 (length ends)) (λ t. let z : ◌≡◌ {A = ℕ} 0 1 = cc (simp (t₁, t₂, t) at e) in absurd (omega arith)) (λ t₃.
    by-test (all_below n ends)
    (λ t₄. let o = eqb-false (length ends % 2) 1 t₂ in let h = ltb-false 8192 (length ends) t₃ in record { nodes = ltb-false _ _ t₁; even = omega arith; edges = omega arith; inside = all_below_at n ends t₄ })
    (λ t. let z : ◌≡◌ {A = ℕ} 0 1 = cc (simp (t₁, t₂, t₃, t) at e) in absurd (omega arith)))))

pub passes : (n : ℕ) (ends : List ℕ) → Passed n ends → first_refusal (graph_checks n ends) ≡ none
unfolding graph_checks first_refusal
passes n ends p =
    let e = p.even in
    simp (le-ltb 512 n p.nodes, ne_eqb (length ends % 2) 1 (λ q. omega arith), le-ltb 8192 (length ends) (omega (arith, p.edges)), below_all n ends p.inside)

-- The graph checks and then one of a length: both pass, or not.
pub sized_passed : (n : ℕ) (ends : List ℕ) (given wanted : ℕ) → first_refusal (graph_checks n ends ++ length_check given wanted ∷ []) ≡ none → Passed n ends × (given ≡ wanted)
sized_passed n ends given wanted e =
    let b = passed_both (graph_checks n ends) (length_check given wanted ∷ []) e in
    (passed n ends b.0, eqb-true given wanted (not-false (eqb given wanted) (passed_one (not (eqb given wanted)) 5 [] b.1).0))

pub passed_sized : (n : ℕ) (ends : List ℕ) (given wanted : ℕ) → Passed n ends → given ≡ wanted → first_refusal (graph_checks n ends ++ length_check given wanted ∷ []) ≡ none
passed_sized n ends given wanted p e =
    passed_first (graph_checks n ends) (length_check given wanted ∷ []) (passes n ends p) ∙ (first_passes (not (eqb given wanted)) 5 [] (simp (eq-eqb given wanted e)) ∙ all_passed)

-- Both ends of every edge are below n.
pub passed_inside : (n : ℕ) (ends : List ℕ) → Passed n ends → (k : ℕ) → k < edge_count ends → (first_end ends k < n) × (second_end ends k < n)
unfolding first_end second_end
passed_inside n ends p k h = (p.inside (2 * k) (omega (arith, p.even)), p.inside (2 * k + 1) (omega (arith, p.even)))

-- The answer of `check_graph`, taken apart by a caller.
abbrev pub Sizes : Type 0
Sizes = ℕ × ℕ

answered_cases : (cs : List Check) (values : Sizes) → ((k : ℕ) × (first_refusal cs ≡ some k) × (answered cs values ≡ refused k)) ⊎ ((first_refusal cs ≡ none) × (answered cs values ≡ accepted values))
answered_cases cs values = go (first_refusal cs) refl
  where
    go : (o : Option ℕ) → first_refusal cs ≡ o → ((k : ℕ) × (first_refusal cs ≡ some k) × (answered cs values ≡ refused k)) ⊎ ((first_refusal cs ≡ none) × (answered cs values ≡ accepted values))
    go none e = inr (e, sym (answered_accepted cs values e))
    go (some k) e = inl (k, e, sym (answered_refused cs k values e))

-- A refusal is the first check's that refuses.
pub checked_refused : (cs : List Check) (values : Sizes) (c : Result Graph Refusal) (r : Refusal) → report_of_checked c ≡ answered cs values → c ≡ Err r → first_refusal cs ≡ some (number r)
checked_refused cs values c r e p =
    let h : report_of_checked c ≡ refused (number r) = ap report_of_checked p in
    elim (answered_cases cs values) [
      | inl (k, q, a) ↦ let i : number r ≡ k = cc in q ∙ ap some (sym i)
      | inr (q, a) ↦ let z : ◌≡◌ {A = ℕ} 0 1 = cc in absurd (omega arith)
    ]

pub checked_accepted : (cs : List Check) (values : Sizes) (c : Result Graph Refusal) (g : Graph) → report_of_checked c ≡ answered cs values → c ≡ Ok g → (first_refusal cs ≡ none) × (g.nodes ≡ values.0) × (g.edges ≡ values.1)
checked_accepted cs values c g e p =
    let t : Sizes = (g.nodes, g.edges) in
    let h : report_of_checked c ≡ accepted t = ap report_of_checked p in
    elim (answered_cases cs values) [
      | inl (k, q, a) ↦ let z : ◌≡◌ {A = ℕ} 0 1 = cc in absurd (omega arith)
      | inr (q, a) ↦ let i : t ≡ values = cc in (q, ap (λ (x : Sizes). x.0) i, ap (λ (x : Sizes). x.1) i)
    ]

pub graph_refused : (n : ℕ) (ends : List ℕ) (c : Result Graph Refusal) (r : Refusal) → report_of_checked c ≡ check_graph n ends → c ≡ Err r → first_refusal (graph_checks n ends) ≡ some (number r)
unfolding check_graph
graph_refused n ends = checked_refused (graph_checks n ends) (n, length ends / 2)

pub graph_accepted : (n : ℕ) (ends : List ℕ) (c : Result Graph Refusal) (g : Graph) → report_of_checked c ≡ check_graph n ends → c ≡ Ok g → (first_refusal (graph_checks n ends) ≡ none) × (g.nodes ≡ n) × (g.edges ≡ edge_count ends)
unfolding check_graph
graph_accepted n ends = checked_accepted (graph_checks n ends) (n, length ends / 2)
