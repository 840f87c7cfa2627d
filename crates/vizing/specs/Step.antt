-- What holds of the working list before and after each step.
use Rattle.std.specs.Prelude.{ℕ, ◌≤◌, ◌<◌, ◌≡◌, List, length}
use Rattle.graph.specs.Color.{no_color}
use Rattle.graph.specs.Colored.{color_of}
use Rattle.vizing.specs.Coloring.{Proper}
use Rattle.vizing.specs.Simple.{Incident}

-- The first k edges have allowed colours, the others none, and coloured edges that share an end differ.
pub record Invariant (ends : List ℕ) (m : ℕ) (Ok : ℕ → Type 0) (k : ℕ) (l : List ℕ) : Type 0 where
  pub size : length l ≡ 4096
  pub proper : Proper (Incident ends m) (color_of l)
  pub done : (j : ℕ) → j < k → Ok (color_of l j)
  pub rest : (j : ℕ) → k ≤ j → color_of l j ≡ no_color
