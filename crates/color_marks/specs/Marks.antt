-- The marks of the items around one: 1 to those without a colour that have the colour on a neighbour.
use Rattle.std.specs.Prelude.{ℕ, ◌<◌, List, ◌++◌, map, [], ◌∷◌, cond, Bool, true, false, ◌&&◌, ◌||◌, eqb, ltb, set, length, get_or, ◌≡◌, ◌≢◌}
use Rattle.graph.specs.Stretch.{stretch}
use Rattle.items.specs.declared.Kind.{Kind}
use Rattle.items.specs.Items.{first_node, second_node, across_of}
use Rattle.graph.specs.Color.{no_color}
use Rattle.color_marks.specs.declared.Note.{Note}
use Rattle.color_marks.specs.declared.Note.TheVariants.{NotAsked, Absent, Stands}
use Rattle.lists.specs.Member.{elem}

-- ---- The items to which the edges at an item's nodes lead: its neighbours, and an edge itself.

-- The items to which these edges of node w lead.
unfoldable pub across_all : Kind → List ℕ → ℕ → List ℕ → List ℕ
across_all kind ends w ks = map (λ (k : ℕ). across_of kind ends k w) ks

module _ (kind : Kind) (ends starts entries : List ℕ) where
  -- The items along the edges at node w.
  unfoldable pub along : ℕ → List ℕ
  along w = across_all kind ends w (stretch starts entries w)

  -- The items along the edges at the nodes of item v.
  unfoldable pub around : ℕ → List ℕ
  around v = cond (eqb (first_node kind ends v) (second_node kind ends v)) (along (first_node kind ends v)) (along (first_node kind ends v) ++ along (second_node kind ends v))

-- ---- A list with a value stored at each of some places, one after the other.

module _ (f : ℕ → ℕ) where
  -- At each place u of us the value f u.
  unfoldable pub stored : List ℕ → List ℕ → List ℕ
  stored [] marks = marks
  stored (u ∷ us) marks = stored us (set marks u (f u))

-- ---- Whether a colour stands at a node: whether an edge there leads to an item that has it.

-- Whether item v has colour c. Beyond the list there is none.
unfoldable pub has_color : List ℕ → ℕ → ℕ → Bool
has_color colors c v = ltb v (length colors) && eqb (get_or colors v 0) c

module _ (kind : Kind) (ends colors : List ℕ) (c w : ℕ) where
  -- Whether one of these edges leads from node w to an item of colour c.
  unfoldable pub stands_at : List ℕ → Bool
  stands_at [] = false
  stands_at (k ∷ ks) = has_color colors c (across_of kind ends k w) || stands_at ks

-- What a note says, if it says anything.
abbrev pub says_stands : Note → Bool
says_stands NotAsked = false
says_stands Absent = false
says_stands Stands = true

-- ---- The marks of the items to which a colour is not new: it stands at one of their nodes.

module _ (kind : Kind) (ends starts entries colors : List ℕ) (c : ℕ) where
  -- Whether the colour stands at node w.
  unfoldable pub stands : ℕ → Bool
  stands w = stands_at kind ends colors c w (stretch starts entries w)

  -- The mark of item v: 1 where it has no colour and the colour stands at its first node or its second.
  unfoldable pub mark_of : ℕ → ℕ
  mark_of v = cond (has_color colors no_color v) (cond (stands (first_node kind ends v) || stands (second_node kind ends v)) 1 0) 0

  -- What is noted of each node: nothing, or whether the colour stands there.
  pub record Asked (at : List Note) : Type 0 where
    pub answer : (w : ℕ) → w < length at → get_or at w NotAsked ≢ NotAsked → says_stands (get_or at w NotAsked) ≡ stands w

-- ---- The marks are set if some item has the colour.

module _ (kind : Kind) (ends starts entries colors : List ℕ) (c v : ℕ) (marks : List ℕ) where
  -- The items around item v get their marks if some item has the colour; one that none has is new to all, and the marks stay.
  unfoldable pub used_marks : List ℕ
  used_marks = cond (elem c colors) (stored (mark_of kind ends starts entries colors c) (around kind ends starts entries v) marks) marks
