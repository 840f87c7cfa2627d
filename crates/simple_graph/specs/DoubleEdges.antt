-- The search for a double edge, node by node: two edges at one node with the same far end. For each node the far ends that
-- came before are stamped with the node's number and one more, in one list for all nodes.
use Rattle.std.specs.Prelude.{ℕ, ◌≤◌, ◌<◌, ◌≡◌, ◌≢◌, List, Bool, true, false, length, get_or}
use Rattle.graph.specs.Edges.{far_end}

-- ---- one node

module _ (ends edges : List ℕ) (v : ℕ) where
  -- The far end at v of the edge at place i of the list.
  abbrev pub far_at : ℕ → ℕ
  far_at i = far_end ends (get_or edges i 0) v

  -- Two edges of the list have the same far end.
  pub record Twice : Type 0 where
    pub earlier : ℕ
    pub later : ℕ
    pub order : earlier < later
    pub listed : later < length edges
    pub same : far_at earlier ≡ far_at later

  -- The first i edges of the list have different far ends.
  abbrev pub Distinct : ℕ → Type 0
  Distinct i = (a b : ℕ) → a < b → b < i → far_at a ≢ far_at b

  -- The answer r says whether two edges of the list have the same far end.
  pub record Tells (r : Bool) : Type 0 where
    pub twice : r ≡ true → Twice
    pub distinct : r ≡ false → Distinct (length edges)

  -- What the search at v starts from: `seen` has a place for each far end, and v's stamp, v + 1, does not occur yet.
  pub record SeenReady (seen : List ℕ) : Type 0 where
    pub inside : (i : ℕ) → i < length edges → far_at i < length seen
    pub old : (w : ℕ) → get_or seen w 0 ≤ v
