-- Marks on colours, and the first place without one.
use Rattle.std.specs.Prelude.{ℕ, ◌≤◌, ◌<◌, List, Bool, true, false, map, ◌≡◌, length, get_or}
use Rattle.lists.specs.Member.{Mem}
use Rattle.graph.specs.Edges.{far_end}
use Rattle.graph.specs.Colored.{color_of}

-- The colours at the far ends of these edges of v, `no_color` for none.
unfoldable pub far_colors : List ℕ → List ℕ → ℕ → List ℕ → List ℕ
far_colors ends colors v ks = map (λ (k : ℕ). color_of colors (far_end ends k v)) ks

-- The marked places are those of these colours.
pub record Marked (marks : List Bool) (cs : List ℕ) : Type 0 where
  pub marked : (c : ℕ) → c < length marks → Mem c cs → get_or marks c false ≡ true
  pub unmarked : (c : ℕ) → c < length marks → get_or marks c false ≡ true → Mem c cs

-- ---- the first place without a mark

pub record FirstUnmarked (marks : List Bool) (c : ℕ) : Type 0 where
  pub inside : c ≤ length marks
  pub before : (b : ℕ) → b < c → get_or marks b false ≡ true
  pub here : c < length marks → get_or marks c false ≡ false
