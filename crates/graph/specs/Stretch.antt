-- The stretch of the entries that holds one node's edges.
use Rattle.std.specs.Prelude.{ℕ, ◌+◌, ◌<◌, List, ◌&&◌, cond, length, get_or, ltb, leb, ◌≡◌}
use Rattle.lists.specs.Parts.{part}
use Rattle.graph.specs.Edges.{edge_count, edges_at}

-- Where a node's entries stand: from `start` up to `end`.
pub record Bounds : Type 0 where
  pub start : ℕ
  pub end : ℕ

-- from the node's start to the next node's; empty at the front where a start is missing, the starts fall, or they pass the entries
unfoldable pub bounds : List ℕ → List ℕ → ℕ → Bounds
bounds starts entries node =
    let from = get_or starts node 0 in
    let to = get_or starts (node + 1) 0 in
    cond (ltb (node + 1) (length starts) && (leb from to && leb to (length entries))) (record { start = from; end = to }) (record { start = 0; end = 0 })

-- the entries there
unfoldable pub stretch : List ℕ → List ℕ → ℕ → List ℕ
stretch starts entries node = part entries (bounds starts entries node).start (bounds starts entries node).end

-- Asked for a node below n the table gives its edges.
pub record Table (ends : List ℕ) (n : ℕ) (starts entries : List ℕ) : Type 0 where
  pub row : (v : ℕ) → v < n → stretch starts entries v ≡ edges_at ends (edge_count ends) v
