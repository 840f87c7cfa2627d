-- What is entered in the edge table, when it is the table of a working list, and edges that may take new colours.
use Rattle.std.specs.Prelude.{ℕ, ◌+◌, ◌*◌, ◌≤◌, ◌<◌, List, [], ◌∷◌, cond, set, length, ltb, ◌≡◌, ◌≢◌}
use Rattle.graph.specs.Edges.{first_end, second_end, edges_at}
use Rattle.graph.specs.Color.{no_color}
use Rattle.graph.specs.Colored.{color_of}
use Rattle.edge_table.specs.EdgeTable.{no_edge, table_edge}
use Rattle.vizing.specs.MisraGries.{edge_of_color, store}
use Rattle.vizing.specs.Coloring.{Proper}
use Rattle.vizing.specs.Simple.{Incident}
use Rattle.lists.specs.Member.{Mem, Nodup}

-- ---- What is entered in the edge table, and what each function leaves of the working list and the table.

-- Entry x at colour c's place for node v, if there is one.
unfoldable pub entered : List ℕ → ℕ → ℕ → ℕ → List ℕ
entered T v c x = cond (ltb v 512) (set T (c * 512 + v) x) T

-- Entry x for colour c at both ends of edge k.
unfoldable pub entered_at_ends : List ℕ → List ℕ → ℕ → ℕ → ℕ → List ℕ
entered_at_ends ends T k c x = entered (entered T (first_end ends k) c x) (second_end ends k) c x

-- A working list and the table beside it.
pub record State : Type 0 where
  pub work : List ℕ
  pub table : List ℕ

abbrev pub state : List ℕ → List ℕ → State
state l T = record { work = l; table = T }

module _ (ends : List ℕ) where
  -- Edge k loses its colour. "None" has no place, so an edge without a colour leaves the table as it is.
  unfoldable pub uncolored : State → ℕ → State
  uncolored s k = state (set s.work k no_color) (entered_at_ends ends s.table k (color_of s.work k) no_edge)

  -- Edge k takes colour c.
  unfoldable pub colored : State → ℕ → ℕ → State
  colored s k c = state (set s.work k c) (entered_at_ends ends s.table k c k)

  unfoldable pub all_uncolored : State → List ℕ → State
  all_uncolored s [] = s
  all_uncolored s (k ∷ ks) = all_uncolored (uncolored s k) ks

  unfoldable pub all_colored : State → List ℕ → List ℕ → State
  all_colored s [] cs = s
  all_colored s (k ∷ ks) [] = s
  all_colored s (k ∷ ks) (c ∷ cs) = all_colored (colored s k c) ks cs

  -- All of these edges lose their colours before any takes its new one.
  unfoldable pub repainted : State → List ℕ → List ℕ → State
  repainted s ks cs = all_colored (all_uncolored s ks) ks cs

-- ---- When a list is the edge table of a working list.

-- Each end has a place in every row of the table, and no edge has the number that marks an empty place.
pub record FitsTable (ends : List ℕ) (m : ℕ) : Type 0 where
  pub edges : m ≤ 4096
  pub nodes : (k : ℕ) → k < m → (first_end ends k < 512) × (second_end ends k < 512)

-- l colours some of the m edges with colours below 576, edges that share an end differently, and T is its table: for every node and
-- colour it says which edge there has the colour.
pub record TableOf (ends : List ℕ) (m : ℕ) (l T : List ℕ) : Type 0 where
  pub fits : FitsTable ends m
  pub work_size : m ≤ length l
  pub table_size : length T ≡ 294912
  pub proper : Proper (Incident ends m) (color_of l)
  pub colors : (k : ℕ) → k < m → color_of l k ≢ no_color → color_of l k < 576
  pub says : (v c : ℕ) → c ≢ no_color → table_edge T v c ≡ edge_of_color l c (edges_at ends m v)

-- ---- Edges that may take new colours in place of their own.

-- What `repaint` is to be given: different edges, a colour for each, and a proper colouring once all are stored.
pub record Repaintable (ends : List ℕ) (m : ℕ) (l ks cs : List ℕ) : Type 0 where
  pub nodup : Nodup ks
  pub inside : (k : ℕ) → Mem k ks → k < m
  pub same_length : length ks ≡ length cs
  pub colors : (c : ℕ) → Mem c cs → c < 576
  pub proper : Proper (Incident ends m) (color_of (store l ks cs))
