-- What every strategy's colours have in common.
use Rattle.std.specs.Prelude.{ℕ, ◌≤◌, ◌<◌, List, ◌⊎◌, ◌≢◌, ◌≡◌, length}
use Rattle.lists.specs.Member.{Mem}
use Rattle.lists.specs.Different.{count}
use Rattle.graph.specs.Color.{no_color}
use Rattle.graph.specs.Colored.{color_of}

-- The neighbours of n items: items among them, of each other, and not too many for the colours.
pub record Neighborhood (nb : ℕ → List ℕ) (n : ℕ) : Type 0 where
  pub items : n ≤ no_color
  pub inside : (v w : ℕ) → v < n → Mem w (nb v) → w < n
  pub symmetric : (v w : ℕ) → v < n → Mem w (nb v) → Mem v (nb w)
  pub times : (v w : ℕ) → v < n → w < n → v ≢ w → count w (nb v) ≡ count v (nb w)
  pub few : (v : ℕ) → v < n → length (nb v) < no_color

pub record Greedy (nb : ℕ → List ℕ) (n : ℕ) (presets colors : List ℕ) : Type 0 where
  pub size : length colors ≡ n
  -- Every item has a colour, a preset one its preset.
  pub colored : (v : ℕ) → v < n → color_of colors v ≢ no_color
  pub kept : (v : ℕ) → v < n → color_of presets v ≢ no_color → color_of colors v ≡ color_of presets v
  -- Neighbours differ unless both are preset.
  pub apart : (v w : ℕ) → v < n → Mem w (nb v) → w ≢ v → (color_of presets v ≡ no_color) ⊎ (color_of presets w ≡ no_color) → color_of colors v ≢ color_of colors w
  -- Below the colour of an item that is not preset, each colour stands on another of its neighbours.
  pub supported : (v : ℕ) → v < n → color_of presets v ≡ no_color → (c : ℕ) → c < color_of colors v → (w : ℕ) × Mem w (nb v) × (w ≢ v) × (color_of colors w ≡ c)
