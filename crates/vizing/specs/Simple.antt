-- Graphs without loops and double edges.
use Rattle.std.specs.Prelude.{ℕ, ◌<◌, ◌≡◌, ◌⊎◌, ◌≢◌, List}
use Rattle.graph.specs.Edges.{first_end, second_end, At}

-- "the same two ends as another, in either order"
abbrev pub SameEnds : List ℕ → ℕ → ℕ → Type 0
SameEnds ends i j =
    ((first_end ends i ≡ first_end ends j) × (second_end ends i ≡ second_end ends j))
    ⊎ ((first_end ends i ≡ second_end ends j) × (second_end ends i ≡ first_end ends j))

-- "without loops or double edges", of the first m edges.
pub record Simple (ends : List ℕ) (m : ℕ) : Type 0 where
  pub no_loop : (k : ℕ) → k < m → first_end ends k ≢ second_end ends k
  pub no_double : (i j : ℕ) → i < m → j < m → SameEnds ends i j → i ≡ j

-- Edge k, one of the first m, has v as an end.
abbrev pub Incident : List ℕ → ℕ → ℕ → ℕ → Type 0
Incident ends m k v = (k < m) × At ends k v
