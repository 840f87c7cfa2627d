-- Laws of components, sides and colours: the lowest node of a component gets 1, neighbours get different colours, and colouring fails just where a closed walk of odd length exists.
use Prim.Native.Nat.{ℕ, zero, suc, ◌-◌, ◌≤◌, ◌<◌}
use mathlib.Core.Path.{◌≡◌, refl, sym, ap, ◌∙◌}
use mathlib.Core.Logic.{◌⊎◌, inl, inr}
use mathlib.Core.List.{List}
use mathlib.Core.Bool.{Bool, true, false, not, ◌&&◌, ◌||◌, xor, beq, cond, not-not, and-true as and-with-true, and-false, false≢true, true≢false}
use native.Mathlib.Omega.{arith}
use native.Mathlib.Nat.{not-suc-le-zero}
use lib.ListN.{length, get_or}
use lib.Dec.{eqb, ltb}
use borrow.Author.Tests.{lt-ltb, le-ltb, ltb-true, ltb-false, eq-eqb, eqb-true, eqb-false}
use Rattle.lists.proofs.Tests.{by-test, dec_eq, and_true, or_true, true_or, or_false}
use Rattle.lists.proofs.SearchLaws.{length_tabulate, tabulate_at}
use Rattle.graph.specs.Edges.{first_end, second_end, far_end, At}
use Rattle.graph.proofs.EdgeLaws.{far_first, far_second}
use Rattle.two_color.specs.Walk.{is_odd, Walk, stay, along, OddClosedWalk}
use Rattle.two_color.proofs.WalkLaws.{false_xor, xor_false, not_xor, xor_not, WalkOf, walk_first, walk_second, walk_widen, of_append, of_reverse, of_widen, of_edge}
use Rattle.two_color.specs.Sides.{lower, gives_way, lowest, odd_side, odd_cycle, side_color, sides}
-- No name of it is used: the rows are to be checked before the laws, so that a wrong definition is refused for what it gives.
use Rattle.two_color.specs.Examples

-- ---- the lower of two, and which gives way to it

lower_either : (a b : ℕ) → (lower a b ≡ a) ⊎ (lower a b ≡ b)
unfolding lower
lower_either a b = by-test (ltb a b) (λ t. inl (simp t)) (λ t. inr (simp t))

lower_le : (a b : ℕ) → (lower a b ≤ a) × (lower a b ≤ b)
unfolding lower
lower_le a b = by-test (ltb a b) (λ t. simp t (omega arith, omega (arith, ltb-true a b t))) (λ t. simp t (omega (arith, ltb-false a b t), omega arith))

gives_above : (a b r : ℕ) → gives_way a b r ≡ true → lower a b < r
unfolding gives_way
gives_above a b r e = ltb-true (lower a b) r (and_true (eqb r a || eqb r b) (ltb (lower a b) r) e).1

-- One of the two gives way to the other.
gives_other : (a b r : ℕ) → gives_way a b r ≡ true → ((r ≡ a) × (lower a b ≡ b)) ⊎ ((r ≡ b) × (lower a b ≡ a))
unfolding gives_way
gives_other a b r e =
    let h = gives_above a b r e in
    elim (or_true (eqb r a) (eqb r b) (and_true (eqb r a || eqb r b) (ltb (lower a b) r) e).0) [
      | inl t ↦ let p = eqb-true r a t in inl (p, elim (lower_either a b) [ inl o ↦ let z : ⊥ = omega arith in absurd z | inr o ↦ o ])
      | inr t ↦ let p = eqb-true r b t in inr (p, elim (lower_either a b) [ inl o ↦ o | inr o ↦ let z : ⊥ = omega arith in absurd z ])
    ]

gives_lower : (a b : ℕ) → gives_way a b (lower a b) ≡ false
unfolding gives_way
gives_lower a b = simp (le-ltb (lower a b) (lower a b) (omega arith), and-false)

gives_first : (a b : ℕ) → gives_way a b a ≡ ltb b a
unfolding gives_way lower
gives_first a b = by-test (ltb a b)
    (λ t. simp (t, eq-eqb a a refl, le-ltb a a (omega arith), le-ltb b a (omega (arith, ltb-true a b t))))
    (λ t. simp (t, eq-eqb a a refl))

gives_second : (a b : ℕ) → gives_way a b b ≡ ltb a b
unfolding gives_way lower
gives_second a b = by-test (ltb a b)
    (λ t. simp (t, true_or (eqb b a) (eqb b b) (eq-eqb b b refl)))
    (λ t. simp (t, true_or (eqb b a) (eqb b b) (eq-eqb b b refl), le-ltb b b (omega arith)))

-- Of two that differ, one.
gives_one : (a b : ℕ) → eqb a b ≡ false → gives_way a b a ≡ not (gives_way a b b)
gives_one a b e =
    let n = eqb-false a b e in
    rw (gives_first a b, gives_second a b) (by-test (ltb a b)
    (λ t. simp (t, le-ltb b a (omega (arith, ltb-true a b t))))
    (λ t. simp (t, lt-ltb b a (omega (arith, ltb-false a b t)))))

-- ---- tests

beq_comm : (x y : Bool) → beq x y ≡ beq y x
beq_comm true true = refl
beq_comm true false = refl
beq_comm false true = refl
beq_comm false false = refl

cross_odd : (x y z : Bool) → xor x (xor true (xor y z)) ≡ xor z (beq x y)
unfolding xor
cross_odd true true true = refl
cross_odd true true false = refl
cross_odd true false true = refl
cross_odd true false false = refl
cross_odd false true true = refl
cross_odd false true false = refl
cross_odd false false true = refl
cross_odd false false false = refl

closed_odd : (x y : Bool) → beq x y ≡ true → xor x (xor true y) ≡ true
unfolding xor
closed_odd true true e = refl
closed_odd true false e = e
closed_odd false true e = e
closed_odd false false e = refl

not_fixed : (b : Bool) → b ≡ xor true b → ⊥
unfolding xor
not_fixed true e = true≢false e
not_fixed false e = false≢true e

-- Of two equal sides one changes; different ones stay.
one_changes : (x y g h : Bool) → (beq x y ≡ true → g ≡ not h) → xor x (g && beq x y) ≡ not (xor y (h && beq x y))
unfolding xor
one_changes true false g h e = simp and-false
one_changes false true g h e = simp and-false
one_changes true true g true e = rw (e refl)
one_changes true true g false e = rw (e refl)
one_changes false false g true e = rw (e refl)
one_changes false false g false e = rw (e refl)

-- ---- one edge more

module _ (ends : List ℕ) (k : ℕ) where
  -- The ends of edge k; and, of the edges before it, their lowest nodes, whether the ends are on the same side, whether v's component gives way.
  abbrev first : ℕ
  first = first_end ends k

  abbrev second : ℕ
  second = second_end ends k

  abbrev low_first : ℕ
  low_first = lowest ends k first

  abbrev low_second : ℕ
  low_second = lowest ends k second

  abbrev same : Bool
  same = beq (odd_side ends k first) (odd_side ends k second)

  abbrev gives : ℕ → Bool
  gives v = gives_way low_first low_second (lowest ends k v)

  pub lowest_next : (v : ℕ) → lowest ends (suc k) v ≡ cond (gives v) (lower low_first low_second) (lowest ends k v)
  unfolding lowest
  lowest_next v = refl

  lowest_gives : (v : ℕ) → gives v ≡ true → lowest ends (suc k) v ≡ lower low_first low_second
  lowest_gives v e = lowest_next v ∙ simp e

  lowest_stays : (v : ℕ) → gives v ≡ false → lowest ends (suc k) v ≡ lowest ends k v
  lowest_stays v e = lowest_next v ∙ simp e

  pub odd_more : (v : ℕ) → odd_side ends (suc k) v ≡ xor (odd_side ends k v) (gives v && same)
  unfolding odd_side
  odd_more v = refl

  odd_stays : (v : ℕ) → gives v ≡ false → odd_side ends (suc k) v ≡ odd_side ends k v
  odd_stays v e = odd_more v ∙ simp (e, xor_false)

  pub cycle_more : odd_cycle ends (suc k) ≡ odd_cycle ends k || eqb low_first low_second && same
  unfolding odd_cycle
  cycle_more = refl

  -- Edge k makes the components of its ends one.
  met_first : lowest ends (suc k) first ≡ lower low_first low_second
  met_first = by-test (gives first) (lowest_gives first) (λ e.
      let h = ltb-false low_second low_first (sym (gives_first low_first low_second) ∙ e) in
      lowest_stays first e ∙ elim (lower_either low_first low_second) [ inl o ↦ sym o | inr o ↦ omega (arith, (lower_le low_first low_second).0) ])

  met_second : lowest ends (suc k) second ≡ lower low_first low_second
  met_second = by-test (gives second) (lowest_gives second) (λ e.
      let h = ltb-false low_first low_second (sym (gives_second low_first low_second) ∙ e) in
      lowest_stays second e ∙ elim (lower_either low_first low_second) [ inl o ↦ omega (arith, (lower_le low_first low_second).1) | inr o ↦ sym o ])

  -- Its ends are on different sides then, unless they were on the same side of one component.
  met_differ : eqb low_first low_second && same ≡ false → odd_side ends (suc k) first ≡ not (odd_side ends (suc k) second)
  met_differ e = rw (odd_more first, odd_more second)
      (one_changes (odd_side ends k first) (odd_side ends k second) (gives first) (gives second) (λ p. gives_one low_first low_second (simp (p, and-with-true) at e)))

  -- Nodes of one component stay in one, and keep or change sides together.
  lowest_more : (u v : ℕ) → lowest ends k u ≡ lowest ends k v → lowest ends (suc k) u ≡ lowest ends (suc k) v
  unfolding lowest
  lowest_more u v p = rw p

  differ_more : (u v : ℕ) → lowest ends k u ≡ lowest ends k v → odd_side ends k u ≡ not (odd_side ends k v) → odd_side ends (suc k) u ≡ not (odd_side ends (suc k) v)
  differ_more u v p q = rw (odd_more u, odd_more v, p, q) (not_xor (odd_side ends k v) (gives v && same))

  module _ (walks : (v : ℕ) → WalkOf ends k (lowest ends k v) v (odd_side ends k v)) where
    -- From the lowest node of x by way of edge k to y, back to its lowest node, which is that of v too, and on to v.
    cross : (x y v : ℕ) → Walk ends (suc k) x y 1 → lowest ends k v ≡ lowest ends k y →
        WalkOf ends (suc k) (lowest ends k x) v (xor (odd_side ends k v) (beq (odd_side ends k x) (odd_side ends k y)))
    cross x y v e p = rw (← cross_odd (odd_side ends k x) (odd_side ends k y) (odd_side ends k v))
        (of_append (of_widen (walks x)) (of_append (of_edge e) (of_append (of_reverse (of_widen (walks y))) (rw p at (of_widen (walks v))))))

    walk_more : (v : ℕ) → WalkOf ends (suc k) (lowest ends (suc k) v) v (odd_side ends (suc k) v)
    walk_more v = by-test (gives v)
        (λ e. rw (lowest_gives v e, odd_more v, e) (elim (gives_other low_first low_second (lowest ends k v) e) [
          | inl (p, q) ↦ rw (q, beq_comm) (cross second first v (walk_second k (omega arith)) p)
          | inr (p, q) ↦ rw q (cross first second v (walk_first k (omega arith)) p)
        ]))
        (λ e. rw (lowest_stays v e, odd_stays v e) (of_widen (walks v)))

    -- An edge inside one side of a component closes a walk of odd length.
    met_closed : eqb low_first low_second && same ≡ true → OddClosedWalk ends (suc k)
    met_closed e =
        let p = and_true (eqb low_first low_second) same e in
        let w = of_append (of_widen (walks first)) (of_append (of_edge (walk_first k (omega arith))) (of_reverse (of_widen (walks second)))) in
        let c = rw (← eqb-true low_first low_second p.0) at w in
        record { node = low_first; steps = c.0; walk = c.1; odd = c.2 ∙ closed_odd (odd_side ends k first) (odd_side ends k second) p.1 }

  -- A node that is its own lowest, and on the even side.
  abbrev Root : ℕ → Type 0
  Root w = (lowest ends k w ≡ w) × (odd_side ends k w ≡ false)

root_more : (ends : List ℕ) (k w : ℕ) → Root ends k w → gives_way (low_first ends k) (low_second ends k) w ≡ false → Root ends (suc k) w
root_more ends k w (p, q) e =
    let n : gives ends k w ≡ false = rw p e in
    (lowest_stays ends k w n ∙ p, odd_stays ends k w n ∙ q)

-- ---- the lowest node of a component

pub lowest_le : (ends : List ℕ) (k v : ℕ) → lowest ends k v ≤ v
unfolding lowest
lowest_le ends zero v = omega arith
lowest_le ends (suc k) v = by-test (gives ends k v)
    (λ e. rw (lowest_gives ends k v e) (omega (arith, gives_above (low_first ends k) (low_second ends k) (lowest ends k v) e, lowest_le ends k v)))
    (λ e. rw (lowest_stays ends k v e) (lowest_le ends k v))

lowest_root : (ends : List ℕ) (k v : ℕ) → Root ends k (lowest ends k v)
unfolding lowest odd_side
lowest_root ends zero v = (refl, refl)
lowest_root ends (suc k) v =
    let lo = lower (low_first ends k) (low_second ends k) in
    let old : Root ends k lo = elim (lower_either (low_first ends k) (low_second ends k)) [
      | inl p ↦ rw p (lowest_root ends k (first_end ends k))
      | inr p ↦ rw p (lowest_root ends k (second_end ends k))
    ] in
    by-test (gives ends k v)
    (λ e. rw (lowest_gives ends k v e) (root_more ends k lo old (gives_lower (low_first ends k) (low_second ends k))))
    (λ e. rw (lowest_stays ends k v e) (root_more ends k (lowest ends k v) (lowest_root ends k v) e))

odd_side_lowest : (ends : List ℕ) (k v : ℕ) → odd_side ends k (lowest ends k v) ≡ false
odd_side_lowest ends k v = (lowest_root ends k v).1

-- The ends of an edge are in one component, and so are those of a walk.
lowest_ends : (ends : List ℕ) (k j : ℕ) → j < k → lowest ends k (first_end ends j) ≡ lowest ends k (second_end ends j)
lowest_ends ends zero j h = absurd (not-suc-le-zero h)
lowest_ends ends (suc k) j h = elim (dec_eq j k) [
  | inl p ↦ rw p (met_first ends k ∙ sym (met_second ends k))
  | inr n ↦ lowest_more ends k (first_end ends j) (second_end ends j) (lowest_ends ends k j (omega arith))
]

lowest_far : (ends : List ℕ) (m j v : ℕ) → j < m → At ends j v → lowest ends m (far_end ends j v) ≡ lowest ends m v
lowest_far ends m j v h (inl p) = rw (far_first ends j v p, ← p) (sym (lowest_ends ends m j h))
lowest_far ends m j v h (inr p) = rw (far_second ends j v p, ← p) (lowest_ends ends m j h)

pub lowest_same : {ends : List ℕ} {m u v l : ℕ} → Walk ends m u v l → lowest ends m u ≡ lowest ends m v
lowest_same stay = refl
lowest_same {ends} {m} {u} (along k h p r) = sym (lowest_far ends m k u h p) ∙ lowest_same r

-- A walk leads from it to each node of the component, odd where the node is on the odd side.
pub lowest_walk : (ends : List ℕ) (k v : ℕ) → WalkOf ends k (lowest ends k v) v (odd_side ends k v)
unfolding lowest odd_side is_odd
lowest_walk ends zero v = (0, stay, refl)
lowest_walk ends (suc k) v = walk_more ends k (lowest_walk ends k) v

-- ---- sides and closed walks of odd length

sides_differ : (ends : List ℕ) (k : ℕ) → odd_cycle ends k ≡ false → (j : ℕ) → j < k → odd_side ends k (first_end ends j) ≡ not (odd_side ends k (second_end ends j))
sides_differ ends zero e j h = absurd (not-suc-le-zero h)
sides_differ ends (suc k) e j h =
    let o = or_false (odd_cycle ends k) (eqb (low_first ends k) (low_second ends k) && same ends k) (sym (cycle_more ends k) ∙ e) in
    elim (dec_eq j k) [
      | inl p ↦ rw p (met_differ ends k o.1)
      | inr n ↦ differ_more ends k (first_end ends j) (second_end ends j) (lowest_ends ends k j (omega arith)) (sides_differ ends k o.0 j (omega arith))
    ]

pub odd_cycle_walk : (ends : List ℕ) (m : ℕ) → odd_cycle ends m ≡ true → OddClosedWalk ends m
unfolding odd_cycle
odd_cycle_walk ends zero e = absurd (false≢true e)
odd_cycle_walk ends (suc k) e = elim (or_true (odd_cycle ends k) (eqb (low_first ends k) (low_second ends k) && same ends k) e) [
  | inl p ↦ let c = odd_cycle_walk ends k p in record { node = c.node; steps = c.steps; walk = walk_widen c.walk; odd = c.odd }
  | inr p ↦ met_closed ends k (lowest_walk ends k) p
]

-- ---- two colours that differ along each edge leave no closed walk of odd length

module _ (ends : List ℕ) (m : ℕ) (f : ℕ → Bool) (proper : (j : ℕ) → j < m → f (first_end ends j) ≡ not (f (second_end ends j))) where
  proper_far : (j v : ℕ) → j < m → At ends j v → f v ≡ not (f (far_end ends j v))
  proper_far j v h (inl p) = rw (far_first ends j v p, ← p) (proper j h)
  proper_far j v h (inr p) = rw (far_second ends j v p, ← p, proper j h) (sym (not-not (f (second_end ends j))))

  -- A walk changes the colour at each step.
  pub proper_walk : {u v l : ℕ} → Walk ends m u v l → f v ≡ xor (is_odd l) (f u)
  unfolding is_odd
  proper_walk {u} stay = sym (false_xor (f u))
  proper_walk {u} (along k h p r) = proper_walk r ∙ rw (proper_far k u h p) (simp (not_xor, xor_not, not-not))

  proper_no_odd : OddClosedWalk ends m → ⊥
  proper_no_odd c = not_fixed (f c.node) (proper_walk c.walk ∙ ap (λ (b : Bool). xor b (f c.node)) c.odd)

pub walk_odd_cycle : (ends : List ℕ) (m : ℕ) → OddClosedWalk ends m → odd_cycle ends m ≡ true
walk_odd_cycle ends m c = by-test (odd_cycle ends m) (λ e. e) (λ e. absurd (proper_no_odd ends m (odd_side ends m) (sides_differ ends m e) c))

-- ---- colours

pub side_color_bound : (ends : List ℕ) (m v : ℕ) → side_color ends m v ≤ 1
unfolding side_color
side_color_bound ends m v = by-test (odd_side ends m v) (λ t. simp t (omega arith)) (λ t. simp t (omega arith))

-- "The lowest node of each component gets 1"
side_color_lowest : (ends : List ℕ) (m v : ℕ) → side_color ends m (lowest ends m v) ≡ 1
unfolding side_color
side_color_lowest ends m v = simp (odd_side_lowest ends m v)

-- The same for a node that no walk takes to a lower one.
pub lowest_own : (ends : List ℕ) (m v : ℕ) → ((u l : ℕ) → Walk ends m v u l → v ≤ u) → lowest ends m v ≡ v
lowest_own ends m v least =
    let w = of_reverse (lowest_walk ends m v) in
    omega (arith, lowest_le ends m v, least (lowest ends m v) w.0 w.1)

pub lowest_node_one : (ends : List ℕ) (m v : ℕ) → ((u l : ℕ) → Walk ends m v u l → v ≤ u) → side_color ends m v ≡ 1
lowest_node_one ends m v least = rw (lowest_own ends m v least) at (side_color_lowest ends m v)

-- "neighbours get the other of 0 and 1"
module _ (ends : List ℕ) (m : ℕ) (fine : odd_cycle ends m ≡ false) (j : ℕ) (h : j < m) where
  pub color_second : side_color ends m (second_end ends j) ≡ 1 - side_color ends m (first_end ends j)
  unfolding side_color
  color_second = rw (sides_differ ends m fine j h) (by-test (odd_side ends m (second_end ends j)) (λ t. simp t) (λ t. simp t))

pub length_sides : (ends : List ℕ) (m n : ℕ) → length (sides ends m n) ≡ n
unfolding sides
length_sides ends m n = length_tabulate (side_color ends m) n

pub sides_at : (ends : List ℕ) (m n v : ℕ) → v < n → get_or (sides ends m n) v 0 ≡ side_color ends m v
unfolding sides
sides_at ends m n v h = tabulate_at (side_color ends m) n v h
