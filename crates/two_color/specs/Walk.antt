-- Walks, and the parity of a number.
use Rattle.std.specs.Prelude.{ℕ, zero, suc, ◌<◌, Bool, false, not, true, ◌≡◌, List}
use Rattle.graph.specs.Edges.{far_end, At}

-- ---- Odd lengths, as a test.

-- "of odd length"
unfoldable pub is_odd : ℕ → Bool
is_odd zero = false
is_odd (suc l) = not (is_odd l)

-- ---- Walks along the edges, and closed walks of odd length.

-- A walk of l edges from u to v along the first m edges.
-- "Edge direction is ignored": each edge leaves one of its ends and arrives at the other.
pub data Walk (ends : List ℕ) (m : ℕ) : ℕ → ℕ → ℕ → Type 0 where
  stay : {v : ℕ} → Walk ends m v v 0
  along : {u v l : ℕ} (k : ℕ) → k < m → At ends k u → Walk ends m (far_end ends k u) v l → Walk ends m u v (suc l)

-- "a closed walk of odd length exists; a loop is one"
pub record OddClosedWalk (ends : List ℕ) (m : ℕ) : Type 0 where
  pub node : ℕ
  pub steps : ℕ
  pub walk : Walk ends m node node steps
  pub odd : is_odd steps ≡ true
