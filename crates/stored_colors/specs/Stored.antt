-- D from an incidence table, and what `color_stored` leaves of the working list and the table.
use Rattle.std.specs.Prelude.{ℕ, zero, suc, max, List, [], ◌∷◌, Bool, true, false, not, ◌&&◌, cond, length, ltb}
use Rattle.graph.specs.Edges.{first_end, second_end}
use Rattle.graph.specs.Stretch.{stretch}
use Rattle.edge_table.specs.EdgeTable.{is_empty}
use Rattle.repaint.specs.Repaint.{State, colored}

-- The longest of the first n nodes' stretches.
unfoldable pub longest_stretch : List ℕ → List ℕ → ℕ → ℕ
longest_stretch starts entries zero = 0
longest_stretch starts entries (suc v) = max (length (stretch starts entries v)) (longest_stretch starts entries v)

-- Edge k may take colour c: it is not above the limit, and no edge of it stands at either end.
unfoldable pub may_take : List ℕ → List ℕ → ℕ → ℕ → ℕ → Bool
may_take ends T k c limit = not (ltb limit c) && (is_empty T (first_end ends k) c && is_empty T (second_end ends k) c)

-- Whether all edges took their colours, and the working list and the table then.
pub record Stored : Type 0 where
  pub all : Bool
  pub state : State

module _ (ends : List ℕ) (limit : ℕ) where
  -- The edges from k on take these colours, up to the first that may not.
  unfoldable pub stored_from : State → ℕ → List ℕ → Stored
  stored_from s k [] = record { all = true; state = s }
  stored_from s k (c ∷ cs) = elim (may_take ends s.table k c limit) [
    | true ↦ stored_from (colored ends s k c) (suc k) cs
    | false ↦ record { all = false; state = s }
  ]

-- More colours than 4,096 are not looked at.
unfoldable pub color_stored : List ℕ → List ℕ → ℕ → State → Stored
color_stored ends stored limit s = cond (ltb 4096 (length stored)) (record { all = false; state = s }) (stored_from ends limit s 0 stored)
