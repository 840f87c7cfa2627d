-- `other` meets its contract: 1 gives 0, 0 gives 1, and no other number is asked.
use native.Mathlib.Omega.{arith}
use Rattle.two_color.proofs.components.other.Goals as goal

pub returns-in-1 : goal.returns-in-1
returns-in-1 c = record { answer = omega arith }

pub returns-in-0 : goal.returns-in-0
returns-in-0 c = record { answer = omega arith }

pub returns-in-0-2 : goal.returns-in-0-2
returns-in-0-2 c = record { answer = omega arith }
