-- Strategy Degree.
use Rattle.std.specs.Prelude.{ℕ, cond, List, [], ◌∷◌, ltb, length}
use Rattle.greedy.specs.Turn.{uncolored, color_item}

module _ (nb : ℕ → List ℕ) where
  -- An item with a lower number than these goes before the first that has no more neighbours: "the Rust sort is stable".
  unfoldable pub insert_by_degree : ℕ → List ℕ → List ℕ
  insert_by_degree v [] = v ∷ []
  insert_by_degree v (u ∷ us) = cond (ltb (length (nb v)) (length (nb u))) (u ∷ insert_by_degree v us) (v ∷ u ∷ us)

  -- These items, which rise, "by deg falling, ties by node number rising".
  unfoldable pub by_degree : List ℕ → List ℕ
  by_degree [] = []
  by_degree (v ∷ vs) = insert_by_degree v (by_degree vs)

  -- One after the other takes its colour.
  unfoldable pub color_in_order : List ℕ → List ℕ → List ℕ
  color_in_order [] colors = colors
  color_in_order (v ∷ vs) colors = color_in_order vs (color_item nb colors v)

  -- "Presets are set first and never altered, even two equal ones side by side. The other nodes follow by deg falling, ties by node number rising"
  unfoldable pub degree_order : ℕ → List ℕ → List ℕ
  degree_order n presets = by_degree (uncolored presets n)

  unfoldable pub degree_colors : ℕ → List ℕ → List ℕ
  degree_colors n presets = color_in_order (degree_order n presets) presets
