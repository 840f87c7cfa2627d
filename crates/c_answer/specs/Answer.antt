-- How a report is handed to C: a number, and values behind pointers.
use Rattle.std.specs.Prelude.{ℕ, ◌≡◌}
use Rattle.graph.specs.Report.{Report, accepted, refused}

-- What a call returns to C: 0 where it accepted, or the refusal's number, which is never 0.
abbrev pub code : {A : Type 0} → Report A → ℕ
code (accepted values) = 0
code (refused k) = k

-- A report is handed back through pointers, which are unchanged on a refusal: what they point to afterwards, given what they pointed to before.
abbrev pub value_or : {A : Type 0} → A → Report A → A
value_or before (accepted values) = values
value_or before (refused k) = before

-- What C is told of a report: the number r, and what the pointers hold, before and after.
pub record Told {A : Type 0} (report : Report A) (before : A) (r : ℕ) (after : A) : Type 0 where
  pub number_is : r ≡ code report
  pub values_are : after ≡ value_or before report

-- What C is told of a call: its report, and what the lent slices hold.
pub record Answered {A B : Type 0} (report : Report A) (written : B) (before : A) (r : ℕ) (after : A) (lent : B) : Type 0 where
  pub told : Told report before r after
  pub slices_are : lent ≡ written
