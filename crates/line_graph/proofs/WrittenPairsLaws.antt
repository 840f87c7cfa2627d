-- Laws of the pairs as they are written.
use Prim.Native.Nat.{ℕ, suc, ◌+◌, ◌≤◌, ◌<◌, zero, ◌-◌, ◌*◌}
use mathlib.Core.List.{List, [], ◌∷◌, ◌++◌, append_assoc, append-nil}
use mathlib.Core.Path.{◌≡◌, sym, ap, ◌∙◌, refl}
use native.Mathlib.Nat.{add-zero, zero-add, mul-suc, suc-mul, mul-le-mul}
use native.Mathlib.Omega.{arith}
use lib.ListN.{length, get_or, take, drop, set, take-append-drop, length-append, length-drop}
use lib.Seq.{drop-cons, set_at, take_at, drop-append-add, drop-drop, length-take-le, take_all, take-suc, take-length, drop-length}
use mathlib.Core.Logic.{inl, inr}
use native.Mathlib.Numerals.{add-one}
use Rattle.graph.specs.Table.{over}
use Rattle.line_graph.specs.WrittenPairs.{placed, pairs_below}
use Rattle.lists.proofs.Tests.{dec_eq}
use Rattle.lists.specs.Parts.{part}
use Rattle.graph.specs.Edges.{edge_count}
use Rattle.graph.specs.Stretch.{stretch, Table}
use Rattle.line_list.specs.LineList.{pairs_with, pairs_of, line_pairs}

-- ---- a list placed in another

pub placed_none : (l : List ℕ) (at : ℕ) → placed l at [] ≡ l
unfolding placed
placed_none l at = rw (add-zero at) (take-append-drop at l)

-- From place 0 on: over the front.
placed_front : (l part : List ℕ) → placed l 0 part ≡ over part l
unfolding placed
placed_front l part = rw (zero-add (length part))

front_length : (l part : List ℕ) (at : ℕ) → at ≤ length l → length (take at l ++ part) ≡ at + length part
front_length l part at h = length-append (take at l) part ∙ ap (λ (n : ℕ). n + length part) (length-take-le at l h)

-- One number more, right behind the part.
placed_store : (l e part : List ℕ) (at place x : ℕ) → e ≡ placed l at part → place ≡ at + length part → place < length l → set e place x ≡ placed l at (part ++ (x ∷ []))
unfolding placed
placed_store l e part at place x p q h =
    let next : at + length (part ++ (x ∷ [])) ≡ suc (at + length part) = omega (arith, length-append part (x ∷ [])) in
    rw (p, q, next, drop-cons l (at + length part) 0 (omega arith), append_assoc part (x ∷ []) (drop (suc (at + length part)) l))
    (ap (λ (r : List ℕ). set r (at + length part) x) (sym (append_assoc (take at l) part (get_or l (at + length part) 0 ∷ drop (suc (at + length part)) l)))
    ∙ (set_at (take at l ++ part) (get_or l (at + length part) 0) (drop (suc (at + length part)) l) x (at + length part) (front_length l part at (omega arith))
    ∙ append_assoc (take at l) part (x ∷ drop (suc (at + length part)) l)))

-- Two parts, the second right behind the first.
placed_append : (l part next : List ℕ) (at place : ℕ) → place ≡ at + length part → place ≤ length l → placed (placed l at part) place next ≡ placed l at (part ++ next)
unfolding placed
placed_append l part next at place q h =
    let front = take at l ++ part in
    let behind = drop (at + length part) l in
    let whole : take at l ++ (part ++ behind) ≡ front ++ behind = sym (append_assoc (take at l) part behind) in
    let size : length front ≡ place = front_length l part at (omega arith) ∙ sym q in
    let end : at + length (part ++ next) ≡ (at + length part) + length next = omega (arith, length-append part next) in
    let far : drop (place + length next) (front ++ behind) ≡ drop (at + length (part ++ next)) l =
    ap (λ (n : ℕ). drop (n + length next) (front ++ behind)) (sym size) ∙ (drop-append-add front behind (length next) ∙ (drop-drop (length next) (at + length part) l ∙ ap (λ (n : ℕ). drop n l) (sym end))) in
    ap (λ (r : List ℕ). take place r ++ (next ++ drop (place + length next) r)) whole
    ∙ (ap (λ (r : List ℕ). r ++ (next ++ drop (place + length next) (front ++ behind))) (take_at front behind place size)
    ∙ (ap (λ (r : List ℕ). front ++ (next ++ r)) far
    ∙ (append_assoc (take at l) part (next ++ drop (at + length (part ++ next)) l) ∙ ap (λ (r : List ℕ). take at l ++ r) (sym (append_assoc part next (drop (at + length (part ++ next)) l))))))

-- ---- writing part after part

-- From place `at` on the slice holds the part, and goes on at `place`.
pub record Writing (before : List ℕ) (at : ℕ) (part l : List ℕ) (place : ℕ) : Type 0 where
  pub next : place ≡ at + length part
  pub held : l ≡ placed before at part

writing_none : (l : List ℕ) (at : ℕ) → Writing l at [] l at
writing_none l at = record { next = omega arith; held = sym (placed_none l at) }

writing_more : (before part l more l' : List ℕ) (at place place' : ℕ) → Writing before at part l place → place ≤ length before → l' ≡ placed l place more → place' ≡ place + length more → Writing before at (part ++ more) l' place'
writing_more before part l more l' at place place' w h e p = record {
  next = omega (arith, w.next, length-append part more);
  held = e ∙ (ap (λ (r : List ℕ). placed r place more) w.held ∙ placed_append before part more at place w.next h);
}

-- Laws of the pairs as the code counts and writes them.

-- ---- what stands after some turns of each loop

-- The pairs of the first i of these edges, each with those after it.
unfoldable pub pairs_before : List ℕ → ℕ → List ℕ
pairs_before edges zero = []
pairs_before edges (suc i) = pairs_before edges i ++ pairs_with (get_or edges i 0) (drop (suc i) edges)

pub table_pairs : (ends starts entries : List ℕ) (n : ℕ) → Table ends n starts entries → (v : ℕ) → v ≤ n → pairs_below starts entries v ≡ line_pairs ends (edge_count ends) v
unfolding pairs_below line_pairs
table_pairs ends starts entries n table zero h = refl
table_pairs ends starts entries n table (suc v) h = rw (table_pairs ends starts entries n table v (omega arith), table.row v h)

-- ---- how many

length_pairs_with : (k : ℕ) (js : List ℕ) → length (pairs_with k js) ≡ 2 * length js
unfolding pairs_with
length_pairs_with k [] = refl
length_pairs_with k (j ∷ js) = omega (arith, length_pairs_with k js)

-- d edges have d * (d - 1) / 2 pairs.
length_pairs_of : (ks : List ℕ) → length (pairs_of ks) + length ks ≡ length ks * length ks
unfolding pairs_of
length_pairs_of [] = refl
length_pairs_of (k ∷ ks) =
    let d = length ks in
    omega (arith, length-append (pairs_with k ks) (pairs_of ks), length_pairs_with k ks, length_pairs_of ks, suc-mul d (suc d), mul-suc d d)

pub square_covers : (ks : List ℕ) → length ks ≤ length ks * length ks
square_covers ks = omega (arith, length_pairs_of ks)

-- ---- the pairs of one edge

module _ (k : ℕ) (js : List ℕ) where
  with_start : pairs_with k (take 0 js) ≡ []
  unfolding pairs_with
  with_start = refl

  with_snoc : (is : List ℕ) (j : ℕ) → pairs_with k (is ++ (j ∷ [])) ≡ pairs_with k is ++ (k ∷ []) ++ (j ∷ [])
  unfolding pairs_with
  with_snoc [] j = refl
  with_snoc (i ∷ is) j = ap (λ (l : List ℕ). k ∷ i ∷ l) (with_snoc is j)

  pub with_none : (l : List ℕ) (at : ℕ) → l ≡ placed l at (pairs_with k (take 0 js))
  with_none l at = rw with_start (sym (placed_none l at))

  pub with_next : (before l : List ℕ) (at i place : ℕ) → l ≡ placed before at (pairs_with k (take i js)) → i < length js → at + 2 * length js ≤ length before → place ≡ at + 2 * i
      → set (set l place k) (place + 1) (get_or js i 0) ≡ placed before at (pairs_with k (take (i + 1) js))
  with_next before l at i place e h room p =
      let size = length_pairs_with k (take i js) ∙ ap (λ (n : ℕ). 2 * n) (length-take-le i js (omega arith)) in
      let one = placed_store before l (pairs_with k (take i js)) at place k e (omega (arith, size)) (omega arith) in
      let two = placed_store before (set l place k) (pairs_with k (take i js) ++ (k ∷ [])) at (place + 1) (get_or js i 0) one (omega (arith, size, length-append (pairs_with k (take i js)) (k ∷ []))) (omega arith) in
      rw (add-one i, take-suc js i 0 h, with_snoc (take i js) (get_or js i 0)) two

  pub with_all : (before l : List ℕ) (at i : ℕ) → l ≡ placed before at (pairs_with k (take i js)) → i ≤ length js → length js ≤ i → l ≡ placed before at (pairs_with k js)
  with_all before l at i e h b =
      let p : i ≡ length js = omega arith in
      e ∙ ap (λ (r : List ℕ). placed before at (pairs_with k r)) (ap (λ (n : ℕ). take n js) p ∙ take-length js)

-- ---- the pairs at one node

of_none : pairs_of [] ≡ []
unfolding pairs_of
of_none = refl

module _ (edges : List ℕ) where
  -- What is to come after i turns.
  before_rest : (i : ℕ) → i ≤ length edges → pairs_before edges i ++ pairs_of (drop i edges) ≡ pairs_of edges
  unfolding pairs_before pairs_of
  before_rest zero h = refl
  before_rest (suc i) h =
      append_assoc (pairs_before edges i) (pairs_with (get_or edges i 0) (drop (suc i) edges)) (pairs_of (drop (suc i) edges))
      ∙ (ap (λ (r : List ℕ). pairs_before edges i ++ pairs_of r) (sym (drop-cons edges i 0 h)) ∙ before_rest i (omega arith))

  before_all : pairs_before edges (length edges) ≡ pairs_of edges
  before_all = sym (append-nil (pairs_before edges (length edges))) ∙ (ap (λ (r : List ℕ). pairs_before edges (length edges) ++ r) none ∙ before_rest (length edges) (omega arith))
    where
      none : [] ≡ pairs_of (drop (length edges) edges)
      none = sym (ap pairs_of (drop-length edges) ∙ of_none)

  before_more : (i : ℕ) → pairs_before edges (i + 1) ≡ pairs_before edges i ++ pairs_with (get_or edges i 0) (drop (i + 1) edges)
  unfolding pairs_before
  before_more i = rw (add-one i)

  before_room : (i : ℕ) → i < length edges → length (pairs_before edges i) + 2 * length (drop (i + 1) edges) ≤ length (pairs_of edges)
  before_room i h =
      omega (
        arith,
        ap length (before_rest (i + 1) (omega arith)),
        length-append (pairs_before edges (i + 1)) (pairs_of (drop (i + 1) edges)),
        ap length (before_more i),
        length-append (pairs_before edges i) (pairs_with (get_or edges i 0) (drop (i + 1) edges)),
        length_pairs_with (get_or edges i 0) (drop (i + 1) edges),
      )

  -- `&edges[a..]`
  rest_part : (a : ℕ) → part edges a (length edges) ≡ drop a edges
  rest_part a = take_all (length edges - a) (drop a edges) (rw (length-drop a edges) (omega arith))

  pub of_start : (l : List ℕ) (at : ℕ) → Writing l at (pairs_before edges 0) l at
  unfolding pairs_before
  of_start l at = writing_none l at

  module _ (before l : List ℕ) (at i place : ℕ) (w : Writing before at (pairs_before edges i) l place) where
    pub of_room : i < length edges → at + length (pairs_of edges) ≤ length before → place + 2 * length (part edges (i + 1) (length edges)) ≤ length before
    of_room h room = omega (arith, w.next, before_room i h, ap length (rest_part (i + 1)))

    pub of_next : (l' : List ℕ) (place' : ℕ) → i < length edges → at + length (pairs_of edges) ≤ length before
        → l' ≡ placed l place (pairs_with (get_or edges i 0) (part edges (i + 1) (length edges))) → place' ≡ place + 2 * length (part edges (i + 1) (length edges))
        → Writing before at (pairs_before edges (i + 1)) l' place'
    of_next l' place' h room e p =
        let later = part edges (i + 1) (length edges) in
        let more = before_more i ∙ ap (λ (r : List ℕ). pairs_before edges i ++ pairs_with (get_or edges i 0) r) (sym (rest_part (i + 1))) in
        rw more (writing_more before (pairs_before edges i) l (pairs_with (get_or edges i 0) later) l' at place place' w (omega (arith, of_room h room)) e
        (p ∙ ap (λ (n : ℕ). place + n) (sym (length_pairs_with (get_or edges i 0) later))))

    pub of_end : i ≤ length edges → length edges ≤ i → (place ≡ at + length (pairs_of edges)) × (l ≡ placed before at (pairs_of edges))
    of_end h b =
        let p : i ≡ length edges = omega arith in
        let e = ap (pairs_before edges) p ∙ before_all in
        (w.next ∙ ap (λ (r : List ℕ). at + length r) e, w.held ∙ ap (placed before at) e)

-- ---- the pairs at all nodes

module _ (starts entries : List ℕ) where
  below_more : (v : ℕ) → pairs_below starts entries (v + 1) ≡ pairs_below starts entries v ++ pairs_of (stretch starts entries v)
  unfolding pairs_below
  below_more v = rw (add-one v)

  length_below_more : (v : ℕ) → length (pairs_below starts entries (v + 1)) ≡ length (pairs_below starts entries v) + length (pairs_of (stretch starts entries v))
  length_below_more v = ap length (below_more v) ∙ length-append (pairs_below starts entries v) (pairs_of (stretch starts entries v))

  below_grows : (v w : ℕ) → v ≤ w → length (pairs_below starts entries v) ≤ length (pairs_below starts entries w)
  below_grows v zero h = let e : v ≡ 0 = omega arith in rw e (omega arith)
  below_grows v (suc w) h = elim (dec_eq v (suc w)) [
    | inl p ↦ rw p (omega arith)
    | inr n ↦ rw (← add-one w) (omega (arith, below_grows v w (omega arith), length_below_more w))
  ]

  pub below_start : (l : List ℕ) → Writing l 0 (pairs_below starts entries 0) l 0
  unfolding pairs_below
  below_start l = writing_none l 0

  module _ (before l : List ℕ) (v n place : ℕ) (w : Writing before 0 (pairs_below starts entries v) l place) where
    pub below_room : (edges : List ℕ) → edges ≡ stretch starts entries v → v < n → length (pairs_below starts entries n) ≤ length before → place + length (pairs_of edges) ≤ length before
    below_room edges s h room = omega (arith, w.next, length_below_more v, below_grows (v + 1) n (omega arith), ap (λ (r : List ℕ). length (pairs_of r)) s)

    pub below_next : (edges l' : List ℕ) (place' : ℕ) → edges ≡ stretch starts entries v → v < n → length (pairs_below starts entries n) ≤ length before
        → l' ≡ placed l place (pairs_of edges) → place' ≡ place + length (pairs_of edges) → Writing before 0 (pairs_below starts entries (v + 1)) l' place'
    below_next edges l' place' s h room e p =
        let more = below_more v ∙ ap (λ (r : List ℕ). pairs_below starts entries v ++ pairs_of r) (sym s) in
        rw more (writing_more before (pairs_below starts entries v) l (pairs_of edges) l' 0 place place' w (omega (arith, below_room edges s h room)) e p)

    pub below_end : v ≤ n → n ≤ v → l ≡ over (pairs_below starts entries n) before
    below_end h b =
        let p : v ≡ n = omega arith in
        w.held ∙ (placed_front before (pairs_below starts entries v) ∙ ap (λ (u : ℕ). over (pairs_below starts entries u) before) p)

  -- ---- the length, from the degrees

  pub count_start : 0 ≡ length (pairs_below starts entries 0)
  unfolding pairs_below
  count_start = refl

  -- No sum or product leaves its type.
  pub square_bound : (edges : List ℕ) (v : ℕ) → edges ≡ stretch starts entries v → length (stretch starts entries v) ≤ 4096 → length edges * length edges ≤ 16777216
  square_bound edges v e h = let b : length edges ≤ 4096 = rw (← e) at h in mul-le-mul b b

  pub count_next : (edges : List ℕ) (v total : ℕ) → edges ≡ stretch starts entries v → total ≡ length (pairs_below starts entries v)
      → total + (length edges * length edges - length edges) ≡ length (pairs_below starts entries (v + 1))
  count_next edges v total s e = omega (arith, length_below_more v, length_pairs_of edges, ap (λ (r : List ℕ). length (pairs_of r)) s)
