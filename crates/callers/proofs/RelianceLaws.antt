-- The clauses of the calls' contracts give what the callers rely on.
use Prim.Native.Nat.{ℕ, suc, ◌<◌}
use mathlib.Core.Path.{◌≡◌, refl, sym, ap, ◌∙◌}
use mathlib.Core.Logic.{inl, inr, ◌≢◌}
use mathlib.Core.List.{List}
use mathlib.Core.Bool.{Bool, true, false, not, true≢false}
use native.Mathlib.Omega.{arith}
use lib.ListN.{length, get_or}
use lib.Dec.{eqb}
use borrow.Author.Tests.{eqb-true, eqb-false}
use Rattle.lists.proofs.Tests.{by-test}
use Rattle.graph.specs.Report.{Report, accepted, Accepted}
use Rattle.graph.specs.Check.{Passed}
use Rattle.graph.proofs.CheckLaws.{passed_inside}
use Rattle.graph.specs.Edges.{edge_count, first_end, second_end, far_end, At}
use Rattle.graph.proofs.EdgeLaws.{far_first, far_second}
use Rattle.vizing.proofs.Theorem.{max_degree_bound}
use Rattle.vizing.specs.Clause.{VizingColoring}
use Rattle.vizing.specs.AddEdge.{EdgeAdded}
use Rattle.greedy.specs.Call.{PrecoloringKept, ProperNodeColoring, ProperEdgeColoring}
use Rattle.two_color.specs.Walk.{is_odd, Walk, stay, along, OddClosedWalk}
use Rattle.two_color.specs.TwoColor.{Bipartition}
use Rattle.callers.specs.Reliance.{EdgesProperlyColored, LateMatchProperlyColored, NoPresetMoved, AdjacentNodesDiffer, AdjacentEdgesDiffer, DiffersAlongEveryEdge, NoAssignment, BipartitionOrNone}

pub edges_proper : (n : ℕ) (ends lent : List ℕ) (report : Report ℕ) (colors : List ℕ) → VizingColoring n ends lent report colors → EdgesProperlyColored n ends lent report colors
edges_proper n ends lent report colors c = record {
  accepts = λ a l. (c.demand3 a l).accepts;
  colored = λ days e k h q.
      let a = c.admits days e in
      let r = (c.demand3 a.0 a.1).accurate.range k h in
      omega (arith, r, a.0.edges, max_degree_bound ends (edge_count ends) n);
  differ = λ days e i j v h g d p q.
      let a = c.admits days e in
      (c.demand3 a.0 a.1).accurate.sharing i j v (h, p) (g, q) d;
}

pub late_match_proper : (n : ℕ) (ends stored lent : List ℕ) (report : Report ℕ) (colors : List ℕ) → EdgeAdded n ends stored lent report colors → LateMatchProperlyColored n ends stored lent report colors
late_match_proper n ends stored lent report colors c = record {
  accepts = λ a s l r d. c.accepts (record {
    admitted = a;
    one_fewer = s;
    size = l;
    proper = record { range = r; sharing = λ i j v p q e. d i j v p.0 q.0 e p.1 q.1 };
  });
  colored = λ days e k h q.
      let r = (c.accurate days e).range k h in
      omega (arith, r, (c.admits days e).admitted.edges, max_degree_bound ends (edge_count ends) n);
  differ = λ days e i j v h g d p q. (c.accurate days e).sharing i j v (h, p) (g, q) d;
  range = λ days e. (c.accurate days e).range;
  afresh = c.afresh;
}

pub no_preset_moved : (n : ℕ) (ends : List ℕ) (items : ℕ) (presets lent : List ℕ) (report : Report ℕ) (colors : List ℕ) → (Passed n ends → length presets ≡ items → length lent ≡ items → Accepted report) → PrecoloringKept items presets report colors
    → NoPresetMoved n ends items presets lent report colors
no_preset_moved n ends items presets lent report colors accepts c = record { accepts = λ p l. accepts p l.0 l.1; kept = c.kept }

pub adjacent_nodes : (n : ℕ) (ends presets : List ℕ) {Sized : Type 0} (report : Report ℕ) (colors : List ℕ) → (Passed n ends → Sized → Accepted report) → ProperNodeColoring n ends presets report colors → AdjacentNodesDiffer n ends presets Sized report colors
adjacent_nodes n ends presets report colors accepts c = record { accepts = accepts; colored = c.colored; differ = c.differ }

pub adjacent_edges : (n : ℕ) (ends presets : List ℕ) {Sized : Type 0} (report : Report ℕ) (colors : List ℕ) → (Passed n ends → Sized → Accepted report) → ProperEdgeColoring ends presets report colors → AdjacentEdgesDiffer n ends presets Sized report colors
adjacent_edges n ends presets report colors accepts c = record { accepts = accepts; colored = c.colored; differ = c.differ }

-- ---- two values along a walk

-- Two values that differ are each other's opposite.
other_value : (a b : Bool) → a ≢ b → b ≡ not a
other_value true true d = absurd (d refl)
other_value true false d = refl
other_value false true d = refl
other_value false false d = absurd (d refl)

not_twice : (b : Bool) → not (not b) ≡ b
not_twice true = refl
not_twice false = refl

-- b, or its opposite if the test holds.
abbrev flipped : Bool → Bool → Bool
flipped true b = not b
flipped false b = b

flipped_not : (t b : Bool) → flipped t (not b) ≡ flipped (not t) b
flipped_not true b = not_twice b
flipped_not false b = refl

-- The far end of an edge has the other value.
far_value : (ends : List ℕ) (value : ℕ → Bool) → DiffersAlongEveryEdge ends value → (k u : ℕ) → k < edge_count ends → At ends k u → value (far_end ends k u) ≡ not (value u)
far_value ends value differs k u h (inl p) = ap value (far_first ends k u p) ∙ (other_value _ _ (differs k h) ∙ ap (λ (x : ℕ). not (value x)) p)
far_value ends value differs k u h (inr p) = ap value (far_second ends k u p) ∙ (other_value _ _ (λ q. differs k h (sym q)) ∙ ap (λ (x : ℕ). not (value x)) p)

-- A walk of odd length ends at the other value.
walk_value : (ends : List ℕ) (value : ℕ → Bool) → DiffersAlongEveryEdge ends value → {u v l : ℕ} → Walk ends (edge_count ends) u v l → value v ≡ flipped (is_odd l) (value u)
unfolding is_odd
walk_value ends value differs stay = refl
walk_value ends value differs {u = u} {l = suc l} (along k h p w) = walk_value ends value differs w ∙ (ap (flipped (is_odd l)) (far_value ends value differs k u h p) ∙ flipped_not (is_odd l) (value u))

-- So where an odd closed walk exists there is no assignment.
odd_none : (ends : List ℕ) → OddClosedWalk ends (edge_count ends) → NoAssignment ends
odd_none ends w value differs = go (value w.node) (walk_value ends value differs w.walk ∙ ap (λ (t : Bool). flipped t (value w.node)) w.odd)
  where
    go : (b : Bool) → b ≡ not b → ⊥
    go true e = true≢false e
    go false e = true≢false (sym e)

-- ---- the proof printer

module _ (n : ℕ) (ends lent : List ℕ) (report : Report ℕ) (colors : List ℕ) (c : Bipartition n ends lent report colors) where
  -- An accepted answer is an assignment: 1, or not.
  assignment : Passed n ends → (days : ℕ) → report ≡ accepted days → NoAssignment ends → ⊥
  assignment p days e none = none (λ v. eqb (get_or colors v 0) 1) (λ k h q.
      let i = passed_inside n ends p k h in
      let a = c.two days e (first_end ends k) i.0 in
      let b = c.two days e (second_end ends k) i.1 in
      by-test (eqb (get_or colors (first_end ends k) 0) 1)
      (λ t. let x = eqb-true (get_or colors (first_end ends k) 0) 1 t in let y = eqb-true (get_or colors (second_end ends k) 0) 1 (sym q ∙ t) in c.differ days e k h (x ∙ sym y))
      (λ t. let x = eqb-false (get_or colors (first_end ends k) 0) 1 t in let y = eqb-false (get_or colors (second_end ends k) 0) 1 (sym q ∙ t) in c.differ days e k h (omega (arith, a, b))))

  pub bipartition_or_none : BipartitionOrNone n ends lent report colors
  bipartition_or_none = record {
    no = λ e. odd_none ends (c.no e).2;
    cannot = λ p l none. elim (c.answers p l) [ inl e ↦ e | inr a ↦ absurd (assignment p a.0 a.1 none) ];
    can = λ p l value differs. elim (c.answers p l) [ inl e ↦ absurd (odd_none ends (c.no e).2 value differs) | inr a ↦ a ];
    yes = c.differ;
  }
