-- Misra-Gries edge colouring as executable definitions, in the words of 01's steps 1 to 5.
use Rattle.std.specs.Prelude.{ℕ, zero, suc, ◌-◌, List, [], ◌∷◌, ◌++◌, map, Bool, true, false, not, ◌&&◌, ◌||◌, cond, length, get_or, set, take, drop, replicate, eqb, ltb}
use Rattle.std.proofs.Math.Option.{Option, none, some}
use Rattle.lists.specs.Member.{elem}
use Rattle.lists.specs.Search.{any, first_place, first_that}
use Rattle.graph.specs.Edges.{edge_count, first_end, second_end, is_loop, far_end, edges_at}
use Rattle.graph.specs.Check.{Check, ◌gives◌, graph_checks, length_check}
use Rattle.graph.specs.Color.{Outcome, colored, no_color}
use Rattle.graph.specs.Colored.{color_of, is_colored, smallest_free_at}

-- ---- colours in a working list

-- The first of these edges that has colour c.
unfoldable pub edge_of_color : List ℕ → ℕ → List ℕ → Option ℕ
edge_of_color l c ks = first_that (λ k. eqb (color_of l k) c) ks

abbrev pub is_none : Option ℕ → Bool
is_none none = true
is_none (some k) = false

-- Colour c is free at the node whose edges these are: none of them has it.
unfoldable pub is_free : List ℕ → List ℕ → ℕ → Bool
is_free l ks c = is_none (edge_of_color l c ks)

-- The colours cs stored at the places ks, one after the other.
unfoldable pub store : List ℕ → List ℕ → List ℕ → List ℕ
store l [] cs = l
store l (k ∷ ks) [] = l
store l (k ∷ ks) (c ∷ cs) = store (set l k c) ks cs

-- ---- step 1: the fan

-- Candidate k "isn't in the fan yet, is coloured", and its "colour is free at the far end of the fan's last edge", whose edges are ks.
unfoldable pub joins : List ℕ → List ℕ → List ℕ → ℕ → Bool
joins l ks fan k = not (elem k fan) && (is_colored l k && is_free l ks (color_of l k))

-- "the first candidate that" does
unfoldable pub first_joining : List ℕ → List ℕ → List ℕ → List ℕ → Option ℕ
first_joining l ks fan candidates = first_that (joins l ks fan) candidates

-- "the fan's last edge"
unfoldable pub last_of : List ℕ → ℕ
last_of fan = get_or fan (length fan - 1) 0

module _ (ends : List ℕ) (m : ℕ) where
  -- "Repeatedly the first candidate that" may "joins the fan, until none does": the fan at u that grows from this one.
  -- "Candidates are u's other edges in incidence order." Each joins once, so 4,096 turns are enough.
  unfoldable pub fan_from : ℕ → List ℕ → ℕ → List ℕ → List ℕ
  fan_from zero l u fan = fan
  fan_from (suc fuel) l u fan =
      elim (first_joining l (edges_at ends m (far_end ends (last_of fan) u)) fan (edges_at ends m u)) [
        | none ↦ fan
        | some k ↦ fan_from fuel l u (fan ++ (k ∷ []))
      ]

  -- "The fan begins with the edge": the fan of edge k, "u first end".
  unfoldable pub fan_of : List ℕ → ℕ → List ℕ
  fan_of l k = fan_from 4096 l (first_end ends k) (k ∷ [])

-- ---- step 3: the path and the exchange

module _ (ends : List ℕ) (m : ℕ) where
  -- "The path from u follows colours d, c, d, and so on as far as it goes": from v along p, q, p. No node comes twice, so n turns are enough.
  unfoldable pub path : ℕ → List ℕ → ℕ → ℕ → ℕ → List ℕ
  path zero l v p q = []
  path (suc fuel) l v p q = elim (edge_of_color l p (edges_at ends m v)) [ none ↦ [] | some k ↦ k ∷ path fuel l (far_end ends k v) q p ]

-- c and d exchanged.
unfoldable pub swap : ℕ → ℕ → ℕ → ℕ
swap c d x = cond (eqb x c) d (cond (eqb x d) c x)

-- "Its edges exchange c and d": all colours are read before any is stored.
unfoldable pub exchange : List ℕ → ℕ → ℕ → List ℕ → List ℕ
exchange l c d ks = store l ks (map (λ (k : ℕ). swap c d (color_of l k)) ks)

-- ---- step 4: w

module _ (ends : List ℕ) (m : ℕ) where
  -- "w is the first fan place whose far end now has d free": places are counted from 0.
  unfoldable pub first_free_place : List ℕ → ℕ → ℕ → List ℕ → ℕ
  first_free_place l d u fan = first_place (λ (k : ℕ). is_free l (edges_at ends m (far_end ends k u)) d) fan

-- ---- step 5: the rotation

-- "Each fan place below w takes the colour of the next, place w takes d; all are read before any is stored": places 0 to w take the colours
-- of places 1 to w, then d.
unfoldable pub rotate : List ℕ → List ℕ → ℕ → ℕ → List ℕ
rotate l fan w d = store l (take (suc w) fan) (map (color_of l) (take w (drop 1 fan)) ++ (d ∷ []))

-- ---- the step of one edge

-- What steps 1 to 4 find: the fan, c and d, the path, the list with the path's edges exchanged, and w.
pub record Found : Type 0 where
  pub fan : List ℕ
  pub c : ℕ
  pub d : ℕ
  pub path : List ℕ
  pub exchanged : List ℕ
  pub w : ℕ

-- "A tally (edges coloured, greatest colour that any edge now has; both 0 before the first edge)"
pub record Tally : Type 0 where
  pub edges : ℕ
  pub greatest : ℕ

-- The greatest colour that any edge has, 0 if none has one.
unfoldable pub greatest_color : List ℕ → ℕ
greatest_color [] = 0
greatest_color (c ∷ cs) = cond (ltb (greatest_color cs) c && not (eqb c no_color)) c (greatest_color cs)

-- The working list and the tally, carried together from edge to edge.
pub record Held : Type 0 where
  pub list : List ℕ
  pub tally : Tally

module _ (ends : List ℕ) (m n : ℕ) where
  -- Steps 1 to 4 for edge k, "u first end". "c is the smallest free colour at u, d that at the far end of the last fan edge."
  unfoldable pub find : List ℕ → ℕ → Found
  find l k =
      let u = first_end ends k in
      let F = fan_of ends m l k in
      let c = smallest_free_at l (edges_at ends m u) in
      let d = smallest_free_at l (edges_at ends m (far_end ends (last_of F) u)) in
      let P = path ends m n l u d c in
      let l' = exchange l c d P in
      record { fan = F; c = c; d = d; path = P; exchanged = l'; w = first_free_place ends m l' d u F }

  -- Step 5.
  unfoldable pub step : List ℕ → ℕ → List ℕ
  step l k = let f = find l k in rotate f.exchanged f.fan f.w f.d

  -- "brings it up to date after each edge"
  unfoldable pub step_held : Held → ℕ → Held
  step_held h k = let l = step h.list k in record { list = l; tally = record { edges = suc h.tally.edges; greatest = greatest_color l } }

  -- "What it holds after its kth edge", and the tally beside it. "Starts from a working list of 4,096 colours, each 65,535 before the first edge."
  unfoldable pub held_after : ℕ → Held
  held_after zero = record { list = replicate 4096 no_color; tally = record { edges = 0; greatest = 0 } }
  held_after (suc k) = step_held (held_after k) k

-- The working list after k edges, in the incidence order of the whole list.
unfoldable pub held : ℕ → List ℕ → ℕ → List ℕ
held n ends k = (held_after ends (edge_count ends) n k).list

-- ---- the call

-- "6 if a loop exists"
unfoldable pub has_loop : List ℕ → ℕ → Bool
has_loop ends m = any (is_loop ends) m

-- "a double edge has the same two ends as another, in either order"
unfoldable pub same_ends : List ℕ → ℕ → ℕ → Bool
same_ends ends i j =
    (eqb (first_end ends i) (first_end ends j) && eqb (second_end ends i) (second_end ends j))
    || (eqb (first_end ends i) (second_end ends j) && eqb (second_end ends i) (first_end ends j))

-- "7 if a double edge exists"
unfoldable pub has_double_edge : List ℕ → ℕ → Bool
has_double_edge ends m = any (λ j. any (λ i. same_ends ends i j) j) m

-- "6 if a loop exists, 7 if a double edge exists"
abbrev pub simple_checks : List ℕ → List Check
simple_checks ends = (has_loop ends (edge_count ends) gives 6) ∷ (has_double_edge ends (edge_count ends) gives 7) ∷ []

-- "misra_gries_edge_color: graph checks, 5 unless the colour slice has length m, 6 if a loop exists, 7 if a double edge exists"
unfoldable pub misra_gries_checks : ℕ → List ℕ → List ℕ → List Check
misra_gries_checks n ends colors = graph_checks n ends ++ length_check (length colors) (edge_count ends) ∷ simple_checks ends

-- The first m colours of the working list after the last edge.
unfoldable pub misra_gries : ℕ → List ℕ → List ℕ → Outcome
misra_gries n ends colors = let m = edge_count ends in colored (misra_gries_checks n ends colors) colors (take m (held n ends m))
