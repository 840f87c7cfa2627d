-- How a call answers, in the papers' terms: accepted with its values, or refused with a number.
use Rattle.std.specs.Prelude.{ℕ, ◌≡◌, Result, Ok, Err}
use Rattle.graph.specs.declared.Graph.{Graph}
use Rattle.graph.specs.declared.Refusal.{Refusal}
use Rattle.graph.specs.declared.Refusal.TheVariants.{TooManyNodes, OddEnds, TooManyEnds, EndOutside, WrongLength, Loop, DoubleEdge, OddClosedWalk, ShortList, BadFile, BadStoredColors}

-- "A refusal reports its number only."
pub data Report (A : Type 0) : Type 0 where
  accepted : A → Report A
  refused : ℕ → Report A

-- "refuses none": accepted, with whatever values.
abbrev pub Accepted : {A : Type 0} → Report A → Type 0
Accepted {A} report = (values : A) × (report ≡ accepted values)

-- 01's number of each refusal; 11 is Point 2's of 02.
abbrev pub number : Refusal → ℕ
number TooManyNodes = 1
number OddEnds = 2
number TooManyEnds = 3
number EndOutside = 4
number WrongLength = 5
number Loop = 6
number DoubleEdge = 7
number OddClosedWalk = 8
number ShortList = 9
number BadFile = 10
number BadStoredColors = 11

-- "Incidence reports the total", "a colouring that is accepted reports `days`": an answer reports what it accepts with, or the number
-- by which it refuses.
abbrev pub report_of : {A : Type 0} → Result A Refusal → Report A
report_of (Ok values) = accepted values
report_of (Err r) = refused (number r)

-- The graph checks report the node count and the edge count.
abbrev pub report_of_checked : Result Graph Refusal → Report (ℕ × ℕ)
report_of_checked (Ok g) = accepted (g.nodes, g.edges)
report_of_checked (Err r) = refused (number r)
