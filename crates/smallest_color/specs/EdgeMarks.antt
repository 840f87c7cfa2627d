-- The smallest free colour at an edge, by marks.
use Rattle.std.specs.Prelude.{ℕ, List, map}
use Rattle.graph.specs.Colored.{color_of}

-- The colours of these edges, `no_color` for none.
unfoldable pub colors_of : List ℕ → List ℕ → List ℕ
colors_of colors ks = map (color_of colors) ks
