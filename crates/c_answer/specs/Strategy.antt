-- A strategy named by a number, and the answer where none has the number.
use Rattle.std.specs.Prelude.{ℕ, cond, eqb, Some, None}
use Rattle.std.specs.Prelude.{Option as Answer}
use Rattle.std.proofs.Math.Option.{Option, none, some}
use Rattle.graph.specs.Report.{Report, accepted, refused}
use Rattle.greedy.specs.declared.ColoringStrategy.{ColoringStrategy}
use Rattle.greedy.specs.declared.ColoringStrategy.TheVariants as S

-- 0 is Degree, 1 Saturation, 2 IndependentSet.
unfoldable pub strategy_of : ℕ → Option ColoringStrategy
strategy_of number = cond (eqb number 0) (some S.Degree) (cond (eqb number 1) (some S.Saturation) (cond (eqb number 2) (some S.IndependentSet) none))

-- The strategy that the code's answer names.
abbrev pub strategy_named : Answer ColoringStrategy → Option ColoringStrategy
strategy_named (Some strategy) = some strategy
strategy_named None = none

-- The number for C where the strategy is unknown, given what the checks report.
abbrev pub code_of_unknown : {A : Type 0} → Report A → ℕ
code_of_unknown (accepted values) = 255
code_of_unknown (refused k) = k
