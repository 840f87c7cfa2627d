-- Ends, incidence order, degree, far end.
use Rattle.std.specs.Prelude.{ℕ, zero, suc, ◌+◌, ◌*◌, ◌/◌, List, [], ◌∷◌, ◌++◌, map, Bool, true, false, not, ◌&&◌, cond, length, get_or, eqb, ◌≡◌, ◌⊎◌}

-- "m edges", each with two ends.
abbrev pub edge_count : List ℕ → ℕ
edge_count ends = length ends / 2

-- "edge k has first end at place 2k, second end at 2k + 1"
unfoldable pub first_end : List ℕ → ℕ → ℕ
first_end ends k = get_or ends (2 * k) 0

unfoldable pub second_end : List ℕ → ℕ → ℕ
second_end ends k = get_or ends (2 * k + 1) 0

-- "A loop has equal ends"
unfoldable pub is_loop : List ℕ → ℕ → Bool
is_loop ends k = eqb (first_end ends k) (second_end ends k)

-- The end of edge k that v is not; for a loop, v again.
unfoldable pub far_end : List ℕ → ℕ → ℕ → ℕ
far_end ends k v = cond (eqb (first_end ends k) v) (second_end ends k) (first_end ends k)

-- `keep b k ks` is ks, with k in front of it where the test b holds.
abbrev pub keep : Bool → ℕ → List ℕ → List ℕ
keep true k ks = k ∷ ks
keep false k ks = ks

-- Edge k stands among the second ends at v: "A loop stands once, in the first group".
unfoldable pub second_at : List ℕ → ℕ → ℕ → Bool
second_at ends k v = eqb (second_end ends k) v && not (is_loop ends k)

-- Of the first k edges "those with first end v, newest (highest number) first".
unfoldable pub first_edges : List ℕ → ℕ → ℕ → List ℕ
first_edges ends zero v = []
first_edges ends (suc k) v = keep (eqb (first_end ends k) v) k (first_edges ends k v)

-- Of the first k edges "those with second end v, newest first", no loops.
unfoldable pub second_edges : List ℕ → ℕ → ℕ → List ℕ
second_edges ends zero v = []
second_edges ends (suc k) v = keep (second_at ends k v) k (second_edges ends k v)

-- "The edges at node v come in this order", of the first k edges.
unfoldable pub edges_at : List ℕ → ℕ → ℕ → List ℕ
edges_at ends k v = first_edges ends k v ++ second_edges ends k v

-- "deg(v) is their number."
unfoldable pub degree : List ℕ → ℕ → ℕ → ℕ
degree ends k v = length (edges_at ends k v)

-- The neighbours of node v in incidence order, along the first k edges: the far ends of its edges. A double edge gives one twice, a loop v once.
unfoldable pub neighbors : List ℕ → ℕ → ℕ → List ℕ
neighbors ends k v = map (λ (j : ℕ). far_end ends j v) (edges_at ends k v)

-- Edge k has v as an end.
abbrev pub At : List ℕ → ℕ → ℕ → Type 0
At ends k v = (first_end ends k ≡ v) ⊎ (second_end ends k ≡ v)
