-- Laws of what a number names: one for each answer of the code.
use Prim.Native.Nat.{ℕ}
use mathlib.Core.Option.{none, some}
use mathlib.Core.Path.{◌≡◌}
use borrow.Author.Tests.{ne_eqb}
use Rattle.greedy.specs.declared.ColoringStrategy.TheVariants as S
use Rattle.c_answer.specs.Strategy.{strategy_of}

pub names_degree : (number : ℕ) → number ≡ 0 → some S.Degree ≡ strategy_of number
unfolding strategy_of
names_degree number e = simp e

pub names_saturation : (number : ℕ) → number ≡ 1 → some S.Saturation ≡ strategy_of number
unfolding strategy_of
names_saturation number e = simp e

pub names_independent_set : (number : ℕ) → number ≡ 2 → some S.IndependentSet ≡ strategy_of number
unfolding strategy_of
names_independent_set number e = simp e

pub names_none : (number : ℕ) → (number ≡ 0 → ⊥) → (number ≡ 1 → ⊥) → (number ≡ 2 → ⊥) → none ≡ strategy_of number
unfolding strategy_of
names_none number a b c = simp (ne_eqb _ _ a, ne_eqb _ _ b, ne_eqb _ _ c)
