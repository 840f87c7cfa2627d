-- Free colours and proper colourings.
use Rattle.std.specs.Prelude.{ℕ, ◌≡◌, ◌≢◌}
use Rattle.graph.specs.Color.{no_color}

module _ (At : ℕ → ℕ → Type 0) where
  -- Colour c is free at v: no edge there has it. A colouring is a function from edges to colours.
  abbrev pub Free : (ℕ → ℕ) → ℕ → ℕ → Type 0
  Free f v c = (k : ℕ) → At k v → f k ≢ c

  -- Coloured edges that share an end differ.
  abbrev pub Proper : (ℕ → ℕ) → Type 0
  Proper f = (i j v : ℕ) → At i v → At j v → f i ≢ no_color → f i ≡ f j → i ≡ j
