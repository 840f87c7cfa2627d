-- The two counts of the items without a colour, what changes them, and the turns.
use Rattle.std.specs.Prelude.{ℕ, ◌<◌, suc, ◌+◌, ◌≤◌, ◌≡◌, ◌≢◌, List, [], ◌∷◌, get_or, length}
use Rattle.graph.specs.Color.{no_color}
use Rattle.graph.specs.Colored.{color_of}
use Rattle.greedy.specs.Saturation.{saturation, uncolored_neighbors, greatest}
use Rattle.lists.specs.Different.{count}
use Rattle.items.specs.declared.table.Items.{Items}
use Rattle.items.specs.Items.{neighbors_of}
use Rattle.greedy.specs.Turn.{uncolored, color_item}

-- ---- The two counts of the items without a colour.

-- Each item without a colour has its two counts: the different colours on its neighbours, and the neighbours that still wait for one.
pub record BothCounted (nb : ℕ → List ℕ) (n : ℕ) (colors saturations waiting : List ℕ) : Type 0 where
  pub differs : (v : ℕ) → v < n → color_of colors v ≡ no_color → get_or saturations v 0 ≡ saturation nb colors v
  pub waits : (v : ℕ) → v < n → color_of colors v ≡ no_color → get_or waiting v 0 ≡ uncolored_neighbors nb colors v

-- An item with a colour has both counts 0, so that it leads no other.
pub record Cleared (colors saturations waiting : List ℕ) : Type 0 where
  pub counts : (v : ℕ) → color_of colors v ≢ no_color → (get_or saturations v 0 ≡ 0) × (get_or waiting v 0 ≡ 0)

-- ---- What the neighbours of an item that takes a colour note: one neighbour fewer waits, and the colour is counted once.

-- An item's counts and mark, before and after it has noted the colour `times` times: it waits for as many fewer, and the colour is new to it unless the mark stood.
pub record NotedTimes (times saturation₀ waiting₀ mark₀ saturation waiting mark : ℕ) : Type 0 where
  pub waits : waiting + times ≡ waiting₀
  pub not_yet : times ≡ 0 → (saturation ≡ saturation₀) × (mark ≡ mark₀)
  pub old : mark₀ ≢ 0 → (saturation ≡ saturation₀) × (mark ≢ 0)
  pub new : mark₀ ≡ 0 → times ≢ 0 → (saturation ≡ suc saturation₀) × (mark ≢ 0)

-- Each item without a colour has noted the colour as often as it stands among these; the counts of the others stay.
pub record Noted (colors us saturations₀ waiting₀ marks₀ saturations waiting marks : List ℕ) : Type 0 where
  pub at : (u : ℕ) → u < length colors → color_of colors u ≡ no_color
      → NotedTimes (count u us) (get_or saturations₀ u 0) (get_or waiting₀ u 0) (get_or marks₀ u 0) (get_or saturations u 0) (get_or waiting u 0) (get_or marks u 0)
  pub kept : (u : ℕ) → color_of colors u ≢ no_color → (get_or saturations u 0 ≡ get_or saturations₀ u 0) × (get_or waiting u 0 ≡ get_or waiting₀ u 0)

-- ---- one edge after the other

-- Each item without a colour has room to note the colour as often as it stands among these.
pub record NotesRoom (colors us saturations waiting marks : List ℕ) : Type 0 where
  pub at : (u : ℕ) → u < length colors → color_of colors u ≡ no_color → (count u us ≤ get_or waiting u 0) × (get_or marks u 0 ≡ 0 → get_or saturations u 0 < 65535)

-- ---- The counts before any item has a colour, and the presets that are set one after the other.

-- The items below v have no colour, and wait for all their neighbours.
pub record Started (nb : ℕ → List ℕ) (v : ℕ) (colors waiting : List ℕ) : Type 0 where
  pub bare : (u : ℕ) → u < v → color_of colors u ≡ no_color
  pub waits : (u : ℕ) → u < v → get_or waiting u 0 ≡ length (nb u)

-- ---- presets

-- The items below v have their presets, the others no colour.
pub record Preset (presets : List ℕ) (v : ℕ) (colors : List ℕ) : Type 0 where
  pub done : (u : ℕ) → u < v → color_of colors u ≡ color_of presets u
  pub bare : (u : ℕ) → v ≤ u → color_of colors u ≡ no_color

-- ---- the state between two turns

-- The neighbours of these items.
abbrev pub neighbors_in : Items → ℕ → List ℕ
neighbors_in items = neighbors_of items.kind items.table.nodes items.table.ends.now

-- The counts of a graph's items, one colour for each item.
pub record CountsReady (items : Items) (colors saturations waiting : List ℕ) : Type 0 where
  pub size : length colors ≡ items.count
  pub counted : BothCounted (neighbors_in items) (length colors) colors saturations waiting
  pub cleared : Cleared colors saturations waiting
  pub saturations_room : length colors ≤ length saturations
  pub waiting_room : length colors ≤ length waiting

-- ---- One turn after the other.

module _ (nb : ℕ → List ℕ) (n : ℕ) where
  -- One turn, which changes nothing where every item has a colour.
  unfoldable pub turn_of : List ℕ → List ℕ
  turn_of colors = elim (uncolored colors n) [ [] ↦ colors | v ∷ vs ↦ color_item nb colors (greatest nb colors v vs) ]
