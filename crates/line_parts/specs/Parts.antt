-- The parts of the edges that share an end with an edge, in the order of the line list.
use Rattle.std.specs.Prelude.{ℕ, ◌+◌, ◌%◌, Bool, true, false, ◌&&◌, cond, List, [], eqb, ltb, length}
use Rattle.graph.specs.Edges.{is_loop}
use Rattle.graph.specs.Stretch.{bounds, stretch}
use Rattle.greedy.specs.IndependentSet.{place_of}
use Rattle.line_list.specs.LineNeighbors.{before_in, after_in, higher_end, lower_end}

-- The numbers after k, or those before it.
unfoldable pub part_in : Bool → ℕ → List ℕ → List ℕ
part_in true k l = after_in k l
part_in false k l = before_in k l

-- Where that part begins: behind k, or at the front.
unfoldable pub part_from : Bool → ℕ → List ℕ → ℕ
part_from later k l = cond (later && ltb (place_of k l) (length l)) (place_of k l + 1) 0

-- What is said of a turn, given what is said of each node: of edge k's higher end, then of its lower, and so on. A loop has one end only.
unfoldable pub at_turn : {A : Type 0} → A → (ℕ → A) → List ℕ → ℕ → ℕ → A
at_turn none at ends k turn = cond (eqb (turn % 2) 0) (at (higher_end ends k)) (cond (is_loop ends k) none (at (lower_end ends k)))

-- The part of a turn, given the edges at each node: after edge k in the first two turns, before it in later ones.
unfoldable pub part_at : (ℕ → List ℕ) → List ℕ → ℕ → ℕ → List ℕ
part_at at ends k turn = at_turn [] (λ v. part_in (ltb turn 2) k (at v)) ends k turn

-- Where it begins among the entries.
unfoldable pub part_start : List ℕ → List ℕ → List ℕ → ℕ → ℕ → ℕ
part_start starts entries ends k turn = at_turn 0 (λ v. (bounds starts entries v).start + part_from (ltb turn 2) k (stretch starts entries v)) ends k turn
