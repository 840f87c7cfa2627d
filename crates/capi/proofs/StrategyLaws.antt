-- Laws of a call by the strategy of a number: one for each answer of the code.
use Rattle.graph.specs.declared.Refusal.{Refusal}
use Rattle.graph.specs.declared.Graph.{Graph}
use Rattle.std.specs.Prelude.{Result, Some, None}
use Rattle.std.specs.Prelude.{Option as Answer}
use Prim.Native.Nat.{ℕ}
use mathlib.Core.Bool.{true}
use mathlib.Core.List.{List, [], ◌∷◌, ◌++◌}
use mathlib.Core.Option.{Option, none, some}
use mathlib.Core.Path.{◌≡◌, refl, sym, ap, ◌∙◌}
use lib.ListN.{length}
use Rattle.graph.specs.Report.{Report, refused, report_of_checked}
use Rattle.graph.specs.Check.{Check, ◌gives◌, first_refusal, answered}
use Rattle.graph.proofs.CheckLaws.{refused_first, passed_first, first_refuses, answered_refused, answered_accepted, written_refused}
use Rattle.graph.specs.Color.{Outcome, colored}
use Rattle.graph.specs.Edges.{edge_count}
use Rattle.greedy.specs.Call.{Rule, rule_of, item_checks, check_items}
use Rattle.greedy.specs.declared.ColoringStrategy.{ColoringStrategy}
use Rattle.c_answer.specs.Answer.{Told, Answered}
use Rattle.c_answer.specs.Strategy.{strategy_of, strategy_named, code_of_unknown}
use Rattle.c_answer.proofs.AnswerLaws.{answered_by}
use Rattle.capi.specs.Strategy.{unknown_strategy, by_number}

-- The checks with a last one that always refuses.
refusal : {A : Type 0} (checks : List Check) (values : A) → first_refusal (checks ++ (true gives 255) ∷ []) ≡ some (code_of_unknown (answered checks values))
refusal checks values = go (first_refusal checks) refl
  where
    go : (o : Option ℕ) → first_refusal checks ≡ o → first_refusal (checks ++ (true gives 255) ∷ []) ≡ some (code_of_unknown (answered checks values))
    go none e = rw (sym (answered_accepted checks values e)) (passed_first checks _ e ∙ first_refuses true 255 [] refl)
    go (some k) e = rw (sym (answered_refused checks k values e)) (refused_first checks _ k e)

module _ (items n : ℕ) (ends presets lent : List ℕ) (c : Result Graph Refusal) (e : report_of_checked c ≡ check_items n ends items (length presets) (length lent)) where
  -- Refused by the checks or by 255, the colours as lent.
  unknown_outcome : (refused (code_of_unknown (report_of_checked c)) ≡ (unknown_strategy items n ends presets lent).report) × (lent ≡ (unknown_strategy items n ends presets lent).colors)
  unfolding unknown_strategy colored check_items
  unknown_outcome =
      let checks = item_checks n ends items (length presets) (length lent) in
      let q = refusal checks (n, edge_count ends) ∙ ap (λ (x : Report (ℕ × ℕ)). some (code_of_unknown x)) (sym e) in
      (answered_refused (checks ++ (true gives 255) ∷ []) _ _ q, written_refused (checks ++ (true gives 255) ∷ []) _ _ _ q)

-- ---- the call by a number

module _ (number : ℕ) (s : Answer ColoringStrategy) (e : strategy_named s ≡ strategy_of number) (call : Rule → Outcome) where
  pub known_answered : (other : Outcome) (strategy : ColoringStrategy) → s ≡ Some strategy → (report : Report ℕ) (before r after : ℕ) (lent : List ℕ)
      → Told report before r after → report ≡ (call (rule_of strategy)).report → lent ≡ (call (rule_of strategy)).colors
      → Answered (by_number number call other).report (by_number number call other).colors before r after lent
  unfolding by_number
  known_answered other strategy p report before r after lent t q w =
      let named : strategy_of number ≡ some strategy = sym e ∙ ap strategy_named p in rw (named, by_number) (answered_by report before r after _ _ lent t q w)

  pub unknown_answered : (items n : ℕ) (ends presets lent : List ℕ) → s ≡ None → (c : Result Graph Refusal) (before r : ℕ)
      → r ≡ code_of_unknown (report_of_checked c) → report_of_checked c ≡ check_items n ends items (length presets) (length lent)
      → let outcome = by_number number call (unknown_strategy items n ends presets lent) in Answered outcome.report outcome.colors before r before lent
  unfolding by_number
  unknown_answered items n ends presets lent p c before r a q =
      let named : strategy_of number ≡ none = sym e ∙ ap strategy_named p in
      let o = unknown_outcome items n ends presets lent c q in
      rw (named, by_number) (answered_by (refused (code_of_unknown (report_of_checked c))) before r before _ _ lent (record { number_is = a; values_are = refl }) o.0 o.1)
