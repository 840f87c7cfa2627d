-- A call that is answered by its report is answered whole.
use Prim.Native.Nat.{ℕ}
use mathlib.Core.Path.{◌≡◌}
use Rattle.graph.specs.Report.{Report}
use Rattle.c_answer.specs.Answer.{Told, Answered}

pub answered_by : {A B : Type 0} (report : Report A) (before : A) (r : ℕ) (after : A) (outcome : Report A) (written lent : B)
    → Told report before r after → report ≡ outcome → lent ≡ written → Answered outcome written before r after lent
answered_by report before r after outcome written lent t e w = record { told = rw e at t; slices_are = w }

-- Two slices as one.
pub both : {A B : Type 0} {a a' : A} {b b' : B} → a ≡ a' → b ≡ b' → ◌≡◌ {A = A × B} (a, b) (a', b')
both p q = rw (p, q)
