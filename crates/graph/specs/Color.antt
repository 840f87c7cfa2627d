-- Colours: days, and the smallest free colour.
use Rattle.std.specs.Prelude.{ℕ, zero, suc, List, [], ◌∷◌, true, false, cond, length, eqb}
use Rattle.lists.specs.Member.{elem}
use Rattle.lists.specs.Different.{different}
use Rattle.graph.specs.Check.{Check, answered, written}
use Rattle.graph.specs.Report.{Report}

-- "65,535 means none, in presets and in working lists"
abbrev pub no_color : ℕ
no_color = 65535

-- The colours of a list: "65,535 means none".
unfoldable pub colors_in : List ℕ → List ℕ
colors_in [] = []
colors_in (c ∷ cs) = cond (eqb c no_color) (colors_in cs) (c ∷ colors_in cs)

-- "`days` is how many different colours the answer has" (02, Point 4, in place of 01's greatest colour plus one).
unfoldable pub days_of : List ℕ → ℕ
days_of cs = different (colors_in cs)

-- Colouring: the report and the colour slice afterwards.
pub record Outcome : Type 0 where
  pub report : Report ℕ
  pub colors : List ℕ

-- Refused by the first check that refuses, the slice as lent; or else `days` of the answer, "the colour slice holds the answer".
unfoldable pub colored : List Check → List ℕ → List ℕ → Outcome
colored checks lent answer = record { report = answered checks (days_of answer); colors = written checks lent answer }

-- The smallest number from c on that is not among the colours, of the next `fuel`.
unfoldable pub smallest_from : ℕ → List ℕ → ℕ → ℕ
smallest_from zero cs c = c
smallest_from (suc fuel) cs c = elim (elem c cs) [ true ↦ smallest_from fuel cs (suc c) | false ↦ c ]

-- "The smallest free colour": the smallest that none of these is.
unfoldable pub smallest_free : List ℕ → ℕ
smallest_free cs = smallest_from (suc (length cs)) cs 0
