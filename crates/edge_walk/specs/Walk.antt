-- What a walk finds at a place of a stretch.
use Rattle.std.specs.Prelude.{ℕ, ◌+◌, List, Option, Some, None, cond, length, get_or, ltb}
use Rattle.graph.specs.declared.EdgeIndex.{EdgeIndex}

-- the edge there and the place after it; past the last entry none
unfoldable pub step_at : List ℕ → ℕ → Option (EdgeIndex × ℕ)
step_at entries at = cond (ltb at (length entries)) (Some (record { 0 = get_or entries at 0 }, at + 1)) None
