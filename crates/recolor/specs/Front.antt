-- A list written to the front of a slice, number by number.
use Rattle.std.specs.Prelude.{ℕ, List, cond, length, leb}
use Rattle.graph.specs.Table.{over}

-- The list at the front of a slice that has room for all of it; a slice that has not stays as it was.
unfoldable pub put_front : List ℕ → List ℕ → List ℕ
put_front new out = cond (leb (length new) (length out)) (over new out) out
