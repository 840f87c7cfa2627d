-- Components and sides, taking in one edge after the other, and the colours. "Edge direction is ignored."
use Rattle.std.specs.Prelude.{ℕ, zero, suc, List, Bool, false, ◌&&◌, ◌||◌, cond, eqb, ltb}
use Rattle.std.specs.Bool.{xor, beq}
use Rattle.lists.specs.Tabulate.{tabulate}
use Rattle.graph.specs.Edges.{first_end, second_end}

-- The lower of two nodes.
unfoldable pub lower : ℕ → ℕ → ℕ
lower a b = cond (ltb a b) a b

-- Whether r is one of a and b, and the other is lower.
unfoldable pub gives_way : ℕ → ℕ → ℕ → Bool
gives_way a b r = (eqb r a || eqb r b) && ltb (lower a b) r

-- "The lowest node of each component": of v's component, of the first k edges.
-- Edge k makes the components of its ends one: the higher of their lowest nodes gives way to the lower.
unfoldable pub lowest : List ℕ → ℕ → ℕ → ℕ
lowest ends zero = λ v. v
lowest ends (suc k) =
    let low = lowest ends k in
    let a = low (first_end ends k) in
    let b = low (second_end ends k) in
    λ v. cond (gives_way a b (low v)) (lower a b) (low v)

-- "neighbours get the other": whether v is an odd number of steps away from the lowest node, along the first k edges.
-- Where the ends of edge k are on the same side, the component that gives way changes sides.
unfoldable pub odd_side : List ℕ → ℕ → ℕ → Bool
odd_side ends zero = λ v. false
odd_side ends (suc k) =
    let low = lowest ends k in
    let odd = odd_side ends k in
    let a = low (first_end ends k) in
    let b = low (second_end ends k) in
    let same = beq (odd (first_end ends k)) (odd (second_end ends k)) in
    λ v. xor (odd v) (gives_way a b (low v) && same)

-- "a closed walk of odd length exists": one of the first k edges joins two nodes of one component that are on the same side.
unfoldable pub odd_cycle : List ℕ → ℕ → Bool
odd_cycle ends zero = false
odd_cycle ends (suc k) =
    let low = lowest ends k in
    let odd = odd_side ends k in
    let same = beq (odd (first_end ends k)) (odd (second_end ends k)) in
    odd_cycle ends k || eqb (low (first_end ends k)) (low (second_end ends k)) && same

-- "The lowest node of each component gets 1, neighbours get the other of 0 and 1."
unfoldable pub side_color : List ℕ → ℕ → ℕ → ℕ
side_color ends m v = cond (odd_side ends m v) 0 1

-- "The lowest node of each component gets 1, neighbours get the other": the colours of nodes 0 to n - 1.
unfoldable pub sides : List ℕ → ℕ → ℕ → List ℕ
sides ends m = tabulate (side_color ends m)
