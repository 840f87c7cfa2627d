-- The pairs as they are written.
use Rattle.std.specs.Prelude.{ℕ, ◌+◌, zero, suc, List, ◌++◌, [], length, take, drop}
use Rattle.graph.specs.Stretch.{stretch}
use Rattle.line_list.specs.LineList.{pairs_of}

-- ---- A list written into another from a place on.

-- `part` stands in l from place `at` on; the numbers before and beyond are l's.
unfoldable pub placed : List ℕ → ℕ → List ℕ → List ℕ
placed l at part = take at l ++ (part ++ drop (at + length part) l)

-- The pairs of the nodes below one, as the code writes them.

-- ---- what stands after some turns of each loop

-- The pairs at the nodes below n, as a table gives their edges.
unfoldable pub pairs_below : List ℕ → List ℕ → ℕ → List ℕ
pairs_below starts entries zero = []
pairs_below starts entries (suc v) = pairs_below starts entries v ++ pairs_of (stretch starts entries v)
