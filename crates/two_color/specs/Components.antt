-- Components as trees: each node hangs under a lower one of its component, or is the lowest itself. What the functions over them hold.
use Rattle.std.specs.Prelude.{ℕ, ◌+◌, ◌≤◌, ◌<◌, ◌≡◌, List, Bool, true, false, not, cond, length, get_or, take}
use Rattle.std.specs.Bool.{xor}
use Rattle.graph.specs.Edges.{first_end, second_end}
use Rattle.two_color.specs.declared.components.Root.{Root}
use Rattle.two_color.specs.Sides.{lowest, odd_side, odd_cycle, sides}

-- The node that each hangs under, never a higher one, and whether it is on the other side than that node.
pub record Forest (up : List ℕ) (flips : List Bool) : Type 0 where
  pub size : length flips ≡ length up
  pub above : (v : ℕ) → v < length up → get_or up v 0 ≤ v

-- v may hang under u: both are in one component, and on different sides where it flips; under itself only the lowest.
pub record Hangs (low : ℕ → ℕ) (odd : ℕ → Bool) (v u : ℕ) (flip : Bool) : Type 0 where
  pub together : low u ≡ low v
  pub side : odd v ≡ xor flip (odd u)
  pub root : u ≡ v → (low v ≡ v) × (odd v ≡ false)

-- The trees are components, with these lowest nodes and sides.
pub record Holds (low : ℕ → ℕ) (odd : ℕ → Bool) (up : List ℕ) (flips : List Bool) : Type 0 where
  pub forest : Forest up flips
  pub hangs : (v : ℕ) → v < length up → Hangs low odd v (get_or up v 0) (get_or flips v false)

-- The trees are the components of the first k edges.
abbrev pub Joined : List ℕ → ℕ → List ℕ → List Bool → Type 0
Joined ends k = Holds (lowest ends k) (odd_side ends k)

-- ---- the root of a node's tree

-- What is found of node v: the lowest node of its component, and v's side.
pub record Found (low : ℕ → ℕ) (odd : ℕ → Bool) (v : ℕ) (r : Root) : Type 0 where
  pub node : r.node.0 ≡ low v
  pub side : r.odd ≡ odd v
  pub own : (low r.node.0 ≡ r.node.0) × (odd r.node.0 ≡ false)

-- Finding it leaves the components as they are, whichever they are.
pub record Finds (up : List ℕ) (flips : List Bool) (v : ℕ) (r : Root) (up' : List ℕ) (flips' : List Bool) : Type 0 where
  pub forest : Forest up' flips'
  pub inside : r.node.0 < length up'
  pub right : (low : ℕ → ℕ) (odd : ℕ → Bool) → Holds low odd up flips → Found low odd v r × Holds low odd up' flips'

-- ---- one edge more

-- The first k edges are taken in, or one of them is inside one side.
pub record Taken (ends : List ℕ) (k : ℕ) (up : List ℕ) (flips : List Bool) (r : Bool) : Type 0 where
  pub answer : r ≡ not (odd_cycle ends k)
  pub joined : r ≡ true → Joined ends k up flips

-- Taking in edge k, whose ends are `first` and `second`, whichever list of ends and edge that is.
pub record Joins (up : List ℕ) (flips : List Bool) (first second : ℕ) (up' : List ℕ) (flips' : List Bool) (r : Bool) : Type 0 where
  pub taken : (ends : List ℕ) (k : ℕ) → first ≡ first_end ends k → second ≡ second_end ends k → Joined ends k up flips → odd_cycle ends k ≡ false → Taken ends (k + 1) up' flips' r

-- ---- the colours

-- Each node has the colour of its side.
abbrev pub Sided : (ℕ → Bool) → ℕ → List ℕ → Type 0
Sided odd n colors = (v : ℕ) → v < n → get_or colors v 0 ≡ cond (odd v) 0 1

-- What the answer r tells of m edges: the first n colours are those of the sides, or an odd closed walk exists.
pub record NodesColored (ends : List ℕ) (m n : ℕ) (r : Bool) (colors : List ℕ) : Type 0 where
  pub even : r ≡ true → odd_cycle ends m ≡ false
  pub sided : r ≡ true → take n colors ≡ sides ends m n
  pub odd : r ≡ false → odd_cycle ends m ≡ true
