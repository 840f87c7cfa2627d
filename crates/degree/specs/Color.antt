-- What the turns of Degree ask of their lists, and the items whose turn is still to come.
use Rattle.std.specs.Prelude.{ℕ, ◌≤◌, ◌<◌, List, ◌≡◌, length, get_or}
use Rattle.lists.specs.Member.{Mem, Nodup}
use Rattle.graph.specs.Color.{no_color}
use Rattle.graph.specs.Colored.{color_of}
use Rattle.items.specs.declared.Kind.{Kind}
use Rattle.items.specs.Items.{items_of, neighbors_of}

-- ---- degrees

-- The lists to work with have a place for each item, and the counts, all 0, one for each degree.
pub record OrderRoom (kind : Kind) (n : ℕ) (ends degrees counts order : List ℕ) : Type 0 where
  pub degrees_room : items_of kind n ends ≤ length degrees
  pub order_room : items_of kind n ends ≤ length order
  pub counts_room : (v : ℕ) → v < items_of kind n ends → length (neighbors_of kind n ends v) < length counts
  pub zeros : (d : ℕ) → get_or counts d 0 ≡ 0

-- ---- the items whose turn is still to come

-- Each stands in the order once, has a place, and has no colour yet.
pub record Waiting (order colors : List ℕ) : Type 0 where
  pub once : Nodup order
  pub inside : (v : ℕ) → Mem v order → v < length colors
  pub free : (v : ℕ) → Mem v order → color_of colors v ≡ no_color
