-- Components as trees: each node hangs under a lower one of its component, or is the lowest itself. What the functions over them do, and the laws that their proofs cite.
use Prim.Native.Nat.{ℕ, zero, suc, min, max, ◌+◌, ◌-◌, ◌≤◌, ◌<◌}
use mathlib.Core.Path.{◌≡◌, refl, sym, ap, ◌∙◌}
use mathlib.Core.Logic.{◌⊎◌, inl, inr, ◌≢◌}
use mathlib.Core.List.{List}
use mathlib.Core.Bool.{Bool, true, false, not, ◌&&◌, xor, beq, cond, false≢true, true≢false}
use native.Mathlib.Numerals.{add-one}
use native.Mathlib.Nat.{not-suc-le-zero}
use native.Mathlib.Omega.{arith}
use native.Mathlib.Decide.{dec_lt}
use lib.ListN.{length, get_or, set, take, replicate, length-set, get_or-replicate}
use lib.Seq.{get_or-set_same, get_or-set_other, get_or-take, length-take-le, ext_get_or}
use lib.Dec.{eqb}
use borrow.Author.Tests.{lt-ltb, le-ltb, eq-eqb, ne_eqb, eqb-true}
use Rattle.lists.proofs.Tests.{by-test, dec_eq, true_or}
use Rattle.graph.specs.Check.{Passed}
use Rattle.graph.specs.Edges.{first_end, second_end}
use Rattle.two_color.specs.declared.components.Root.{Root}
use Rattle.two_color.proofs.WalkLaws.{false_xor, xor_false}
use Rattle.two_color.specs.Sides.{lower, gives_way, lowest, odd_side, odd_cycle, side_color, sides}
use Rattle.two_color.proofs.SideLaws.{lowest_next, odd_more, cycle_more, length_sides, sides_at}
use Rattle.two_color.specs.Components.{Forest, Hangs, Holds, Joined, Found, Finds, Taken, Joins, Sided}

-- ---- one node is hung elsewhere

module _ (up : List ℕ) (flips : List Bool) (forest : Forest up flips) (x : ℕ) (inside : x < length up) (u : ℕ) (flip : Bool) (le : u ≤ x) where
  hung_forest : Forest (set up x u) (set flips x flip)
  hung_forest = record {
    size = simp length-set forest.size;
    above = λ v h. elim (dec_eq v x) [
      | inl p ↦ rw (p, get_or-set_same up x u 0 inside) le
      | inr n ↦ rw (get_or-set_other up x v u 0 n) (forest.above v (rw (length-set up x u) at h))
    ];
  }

  hung_holds : (low : ℕ → ℕ) (odd : ℕ → Bool) → ((v : ℕ) → v < length up → v ≢ x → Hangs low odd v (get_or up v 0) (get_or flips v false)) → Hangs low odd x u flip → Holds low odd (set up x u) (set flips x flip)
  hung_holds low odd others one = record {
    forest = hung_forest;
    hangs = λ v h. elim (dec_eq v x) [
      | inl p ↦ rw (p, get_or-set_same up x u 0 inside, get_or-set_same flips x flip false (rw forest.size inside)) one
      | inr n ↦ rw (get_or-set_other up x v u 0 n, get_or-set_other flips x v flip false n) (others v (rw (length-set up x u) at h) n)
    ];
  }

-- ---- the root of a node's tree

xor_assoc : (a b c : Bool) → xor a (xor b c) ≡ xor (xor a b) c
unfolding xor
xor_assoc true true true = refl
xor_assoc true true false = refl
xor_assoc true false true = refl
xor_assoc true false false = refl
xor_assoc false true true = refl
xor_assoc false true false = refl
xor_assoc false false true = refl
xor_assoc false false false = refl

-- On the way up from v: x is in v's component, and on the other side than v where `odd` says so.
pub record Climbs (up₀ : List ℕ) (flips₀ : List Bool) (v : ℕ) (up : List ℕ) (flips : List Bool) (x : ℕ) (odd : Bool) : Type 0 where
  pub forest : Forest up flips
  pub size : length up ≡ length up₀
  pub inside : x < length up
  pub right : (low : ℕ → ℕ) (side : ℕ → Bool) → Holds low side up₀ flips₀ → Holds low side up flips × (low x ≡ low v) × (side v ≡ xor odd (side x))

pub climb_none : (up : List ℕ) (flips : List Bool) (v : ℕ) → Forest up flips → v < length up → Climbs up flips v up flips v false
climb_none up flips v forest h = record { forest = forest; size = refl; inside = h; right = λ low side holds. (holds, refl, sym (false_xor (side v))) }

module _ (up₀ : List ℕ) (flips₀ : List Bool) (v : ℕ) (up : List ℕ) (flips : List Bool) (x : ℕ) (odd : Bool) (climbs : Climbs up₀ flips₀ v up flips x odd) where
  -- The node above x, and the one above that.
  abbrev next : ℕ
  next = get_or up x 0

  abbrev above : ℕ
  above = get_or up next 0

  pub next_inside : next < length up
  next_inside = omega (arith, climbs.forest.above x climbs.inside, climbs.inside)

  above_le : above ≤ next
  above_le = climbs.forest.above next next_inside

  pub above_lower : (above ≡ next → ⊥) → above < x
  above_lower n = omega (arith, climbs.forest.above x climbs.inside, above_le)

  pub climb_more : (above ≡ next → ⊥) → Climbs up₀ flips₀ v (set up x above) (set flips x (xor (get_or flips x false) (get_or flips next false))) above (xor odd (xor (get_or flips x false) (get_or flips next false)))
  climb_more n =
      let flip = xor (get_or flips x false) (get_or flips next false) in
      let lt = above_lower n in
      record {
        forest = hung_forest up flips climbs.forest x climbs.inside above flip (omega arith);
        size = length-set up x above ∙ climbs.size;
        inside = rw (length-set up x above) (omega (arith, climbs.inside));
        right = λ low side holds.
            let r = climbs.right low side holds in
            let h = r.0.hangs x climbs.inside in
            let g = r.0.hangs next next_inside in
            let s : side x ≡ xor flip (side above) = h.side ∙ (ap (xor (get_or flips x false)) g.side ∙ xor_assoc (get_or flips x false) (get_or flips next false) (side above)) in (
              hung_holds up flips climbs.forest x climbs.inside above flip (omega arith) low side (λ u b e. r.0.hangs u b) (record { together = g.together ∙ h.together; side = s; root = λ p. absurd (omega arith) }),
              g.together ∙ (h.together ∙ r.1),
              r.2 ∙ (ap (xor odd) s ∙ xor_assoc odd flip (side above)),
            );
      }

  pub climb_done : (r : Root) → above ≡ next → r.node.0 ≡ above → r.odd ≡ xor odd (get_or flips x false) → Finds up₀ flips₀ v r up flips
  climb_done r e p q = record {
    forest = climbs.forest;
    inside = omega (arith, next_inside);
    right = λ low side holds.
        let c = climbs.right low side holds in
        let h = c.0.hangs x climbs.inside in
        let own = (c.0.hangs next next_inside).root e in
        let n = p ∙ e in (
          record {
            node = n ∙ (sym own.0 ∙ (h.together ∙ c.1));
            side = q ∙ sym (c.2 ∙ ap (xor odd) (h.side ∙ (ap (xor (get_or flips x false)) own.1 ∙ xor_false (get_or flips x false))));
            own = rw n own;
          },
          c.0,
        );
  }

-- ---- one edge more

-- Of two different nodes the higher gives way, in whichever order they come.
second_gives : (low high r : ℕ) → low < high → gives_way low high r ≡ eqb r high
unfolding gives_way lower
second_gives low high r h = simp (lt-ltb low high h) (by-test (eqb r high)
    (λ t. let p = eqb-true r high t in simp (true_or (eqb r low) (eqb r high) t, lt-ltb low r (omega arith)) (sym t))
    (λ t. by-test (eqb r low) (λ s. let p = eqb-true r low s in simp (t, s, le-ltb low r (omega arith))) (λ s. simp (t, s))))

first_gives : (low high r : ℕ) → low < high → gives_way high low r ≡ eqb r high
unfolding gives_way lower
first_gives low high r h = simp (le-ltb high low (omega arith)) (by-test (eqb r high)
    (λ t. let p = eqb-true r high t in simp (t, lt-ltb low r (omega arith)))
    (λ t. by-test (eqb r low) (λ s. let p = eqb-true r low s in simp (t, s, le-ltb low r (omega arith))) (λ s. simp (t, s))))

none_gives : (a b r : ℕ) → a ≡ b → gives_way a b r ≡ false
unfolding gives_way lower
none_gives a b r e = rw e (simp (le-ltb b b (omega arith)) (by-test (eqb r b)
    (λ t. let p = eqb-true r b t in simp (t, le-ltb b r (omega arith))) (λ t. simp t)))

second_lower : (low high : ℕ) → low < high → lower low high ≡ low
unfolding lower
second_lower low high h = simp (lt-ltb low high h)

first_lower : (low high : ℕ) → low < high → lower high low ≡ low
unfolding lower
first_lower low high h = simp (le-ltb high low (omega arith))

module _ (ends : List ℕ) (k : ℕ) where
  -- Of the edges before edge k: the lowest nodes of its ends, and whether these are on the same side.
  abbrev low_first : ℕ
  low_first = lowest ends k (first_end ends k)

  abbrev low_second : ℕ
  low_second = lowest ends k (second_end ends k)

  abbrev same : Bool
  same = beq (odd_side ends k (first_end ends k)) (odd_side ends k (second_end ends k))

  -- ---- inside one component nothing changes

  module _ (up : List ℕ) (flips : List Bool) (joined : Joined ends k up flips) (fine : odd_cycle ends k ≡ false) where
    kept_joined : low_first ≡ low_second → Joined ends (suc k) up flips
    kept_joined e =
        let low : (v : ℕ) → lowest ends (suc k) v ≡ lowest ends k v = λ v. lowest_next ends k v ∙ simp (none_gives low_first low_second (lowest ends k v) e) in
        let odd : (v : ℕ) → odd_side ends (suc k) v ≡ odd_side ends k v = λ v. odd_more ends k v ∙ simp (none_gives low_first low_second (lowest ends k v) e, xor_false) in
        record {
          forest = joined.forest;
          hangs = λ v h.
              let g = joined.hangs v h in
              record { together = low (get_or up v 0) ∙ (g.together ∙ sym (low v)); side = odd v ∙ (g.side ∙ ap (xor (get_or flips v false)) (sym (odd (get_or up v 0)))); root = λ p. let o = g.root p in (low v ∙ o.0, odd v ∙ o.1) };
        }

    edge_inside : low_first ≡ low_second → Taken ends (k + 1) up flips (not same)
    edge_inside e = rw (add-one k) (record { answer = rw (cycle_more ends k) (simp (fine, eq-eqb low_first low_second e)); joined = λ t. kept_joined e })

    -- ---- two components become one

    module _ (low high : ℕ) (lt : low < high) (gives : (r : ℕ) → gives_way low_first low_second r ≡ eqb r high) (least : lower low_first low_second ≡ low) (apart : low_first ≢ low_second)
        (low-own : (lowest ends k low ≡ low) × (odd_side ends k low ≡ false)) (high-own : (lowest ends k high ≡ high) × (odd_side ends k high ≡ false)) (inside : high < length up) where
      joined_lowest : (v : ℕ) → lowest ends (suc k) v ≡ cond (eqb (lowest ends k v) high) low (lowest ends k v)
      joined_lowest v = lowest_next ends k v ∙ simp (gives (lowest ends k v), least)

      joined_odd : (v : ℕ) → odd_side ends (suc k) v ≡ xor (odd_side ends k v) (eqb (lowest ends k v) high && same)
      joined_odd v = odd_more ends k v ∙ simp (gives (lowest ends k v))

      -- A root other than the higher one stays.
      stays : (w : ℕ) → w ≢ high → (lowest ends k w ≡ w) × (odd_side ends k w ≡ false) → (lowest ends (suc k) w ≡ w) × (odd_side ends (suc k) w ≡ false)
      stays w n (p, q) = (joined_lowest w ∙ simp (p, ne_eqb w high n), joined_odd w ∙ simp (p, ne_eqb w high n, q, xor_false))

      hung_joined : Joined ends (suc k) (set up high low) (set flips high same)
      hung_joined =
          let here = stays low (λ p. omega arith) low-own in
          hung_holds up flips joined.forest high inside low same (omega arith) (lowest ends (suc k)) (odd_side ends (suc k))
          (λ v h n.
          let g = joined.hangs v h in
          record {
            together = joined_lowest (get_or up v 0) ∙ (ap (λ (r : ℕ). cond (eqb r high) low r) g.together ∙ sym (joined_lowest v));
            side = joined_odd v ∙ rw (g.side, ← xor_assoc) (ap (xor (get_or flips v false)) (rw (← g.together) (sym (joined_odd (get_or up v 0)))));
            root = λ p. stays v n (g.root p);
          })
          (record {
            together = here.0 ∙ sym (joined_lowest high ∙ simp (high-own.0, eq-eqb high high refl));
            side = joined_odd high ∙ simp (high-own.0, high-own.1, eq-eqb high high refl, here.1, xor_false, false_xor);
            root = λ p. absurd (omega arith);
          })

      taken_apart : Taken ends (k + 1) (set up high low) (set flips high same) true
      taken_apart = rw (add-one k) (record { answer = rw (cycle_more ends k) (simp (fine, ne_eqb low_first low_second apart)); joined = λ t. hung_joined })

    -- ---- as the code finds the roots of the two ends

    module _ (a b : Root) (first : Found (lowest ends k) (odd_side ends k) (first_end ends k) a) (second : Found (lowest ends k) (odd_side ends k) (second_end ends k) b) where
      roots_meet : a.node.0 ≡ b.node.0 → Taken ends (k + 1) up flips (not (beq a.odd b.odd))
      roots_meet e = rw (first.side, second.side) (edge_inside (sym first.node ∙ (e ∙ second.node)))

      hung_second : a.node.0 < b.node.0 → b.node.0 < length up → Taken ends (k + 1) (set up b.node.0 a.node.0) (set flips b.node.0 (beq a.odd b.odd)) true
      hung_second h i = rw (first.side, second.side) (taken_apart a.node.0 b.node.0 h
          (λ r. rw (← first.node, ← second.node) (second_gives a.node.0 b.node.0 r h)) (rw (← first.node, ← second.node) (second_lower a.node.0 b.node.0 h))
          (λ e. omega (arith, first.node, second.node)) first.own second.own i)

      hung_first : b.node.0 < a.node.0 → a.node.0 < length up → Taken ends (k + 1) (set up a.node.0 b.node.0) (set flips a.node.0 (beq a.odd b.odd)) true
      hung_first h i = rw (first.side, second.side) (taken_apart b.node.0 a.node.0 h
          (λ r. rw (← first.node, ← second.node) (first_gives b.node.0 a.node.0 r h)) (rw (← first.node, ← second.node) (first_lower b.node.0 a.node.0 h))
          (λ e. omega (arith, first.node, second.node)) second.own first.own i)

-- Both roots are found one after the other.
module _ (up₀ : List ℕ) (flips₀ : List Bool) (first second : ℕ) (a b : Root) (up₁ : List ℕ) (flips₁ : List Bool) (up : List ℕ) (flips : List Bool)
    (finds : Finds up₀ flips₀ first a up₁ flips₁) (finds' : Finds up₁ flips₁ second b up flips) where
  both : (ends : List ℕ) (k : ℕ) → first ≡ first_end ends k → second ≡ second_end ends k → Joined ends k up₀ flips₀ →
      Joined ends k up flips × Found (lowest ends k) (odd_side ends k) (first_end ends k) a × Found (lowest ends k) (odd_side ends k) (second_end ends k) b
  both ends k p q joined =
      let f = finds.right (lowest ends k) (odd_side ends k) joined in
      let g = finds'.right (lowest ends k) (odd_side ends k) f.1 in
      (g.1, rw p at f.0, rw q at g.0)

  pub join_inside : a.node.0 ≡ b.node.0 → Joins up₀ flips₀ first second up flips (not (beq a.odd b.odd))
  join_inside e = record { taken = λ ends k p q joined fine. let r = both ends k p q joined in roots_meet ends k up flips r.0 fine a b r.1 r.2 e }

  module _ (size : length up ≡ length up₁) (high : ℕ) where
    pub join_room : (high ≡ a.node.0) ⊎ (high ≡ b.node.0) → high < length up
    join_room (inl e) = omega (arith, finds.inside)
    join_room (inr e) = omega (arith, finds'.inside)

    pub join_apart : (low : ℕ) → (a.node.0 ≡ b.node.0 → ⊥)
        → ((b.node.0 < a.node.0) × (low ≡ b.node.0) × (high ≡ a.node.0)) ⊎ ((a.node.0 ≤ b.node.0) × (low ≡ a.node.0) × (high ≡ b.node.0))
        → Joins up₀ flips₀ first second (set up high low) (set flips high (beq a.odd b.odd)) true
    join_apart low n (inl (h, l, t)) = rw (l, t) (record {
      taken = λ ends k p q joined fine.
          let r = both ends k p q joined in hung_first ends k up flips r.0 fine a b r.1 r.2 h (omega (arith, finds.inside));
    })
    join_apart low n (inr (h, l, t)) = rw (l, t) (record {
      taken = λ ends k p q joined fine.
          let r = both ends k p q joined in hung_second ends k up flips r.0 fine a b r.1 r.2 (omega arith) finds'.inside;
    })

    -- The same where the code has the higher as the greater of the two, and the lower as the lesser.
    max_is : high ≡ max a.node.0 b.node.0 → (high ≡ a.node.0) ⊎ (high ≡ b.node.0)
    max_is e = elim (dec_lt b.node.0 a.node.0) [ yes h ↦ inl (omega arith) | no h ↦ inr (omega arith) ]

    pub join_room_max : high ≡ max a.node.0 b.node.0 → high < length up
    join_room_max e = join_room (max_is e)

    pub join_apart_max : (low : ℕ) → (a.node.0 ≡ b.node.0 → ⊥) → low ≡ min a.node.0 b.node.0 → high ≡ max a.node.0 b.node.0 → Joins up₀ flips₀ first second (set up high low) (set flips high (beq a.odd b.odd)) true
    join_apart_max low n l t = join_apart low n (elim (dec_lt b.node.0 a.node.0) [ yes h ↦ inl (h, omega arith, omega arith) | no h ↦ inr (omega arith, omega arith, omega arith) ])

-- ---- all edges

pub joined_none : (ends up : List ℕ) (flips : List Bool) → ((v : ℕ) → v < length up → get_or up v 0 ≡ v) → length up ≡ 512 → flips ≡ replicate 512 false → Joined ends 0 up flips
unfolding lowest odd_side
joined_none ends up flips own n e = record {
  forest = record { size = ap length e ∙ sym n; above = λ v h. omega (arith, own v h) };
  hangs = λ v h. record { together = own v h; side = rw (e, get_or-replicate 512 v false false (rw n at h)) (sym (false_xor false)); root = λ p. (refl, refl) };
}

-- The trees have room for every node.
pub room_passed : (n room : ℕ) (ends : List ℕ) → Passed n ends → room ≡ 512 → Passed room ends
room_passed n room ends p e = record { nodes = omega arith; even = p.even; edges = p.edges; inside = λ i h. omega (arith, p.nodes, p.inside i h) }

-- An edge inside one side stays one of the edges.
cycle_later : (ends : List ℕ) (k m : ℕ) → k ≤ m → odd_cycle ends k ≡ true → odd_cycle ends m ≡ true
cycle_later ends k zero h e = let z : k ≡ 0 = omega arith in rw z at e
cycle_later ends k (suc m) h e = elim (dec_eq k (suc m)) [
  | inl p ↦ rw p at e
  | inr n ↦ rw (cycle_more ends m, cycle_later ends k m (omega arith) e)
]

module _ (ends : List ℕ) (k : ℕ) (up : List ℕ) (flips : List Bool) (r : Bool) (taken : Taken ends k up flips r) where
  pub taken_fine : r ≡ true → (odd_cycle ends k ≡ false) × Joined ends k up flips
  taken_fine t = (by-test (odd_cycle ends k) (λ e. absurd (false≢true (sym (simp e at taken.answer) ∙ t))) (λ e. e), taken.joined t)

  pub taken_clash : r ≡ false → odd_cycle ends k ≡ true
  taken_clash t = by-test (odd_cycle ends k) (λ e. e) (λ e. absurd (true≢false (sym (simp e at taken.answer) ∙ t)))

  pub taken_early : (m : ℕ) → k ≤ m → r ≡ false → Taken ends m up flips false
  taken_early m h t = record { answer = rw (cycle_later ends k m h (taken_clash t)); joined = λ e. absurd (false≢true e) }

pub taken_all : (ends : List ℕ) (k m : ℕ) (up : List ℕ) (flips : List Bool) → k ≡ m → odd_cycle ends k ≡ false → Joined ends k up flips → Taken ends m up flips true
taken_all ends k m up flips p e joined = rw (← p) (record { answer = rw e; joined = λ t. joined })

-- ---- the colours

-- The first v of n nodes have the colours of their sides, whichever sides the trees hold.
pub record Colored (n : ℕ) (up : List ℕ) (flips : List Bool) (colors₀ : List ℕ) (colors : List ℕ) (v : ℕ) : Type 0 where
  pub forest : Forest up flips
  pub room : (n ≤ length up) × (n ≤ length colors)
  pub size : length colors ≡ length colors₀
  pub bound : v ≤ n
  pub two : (u : ℕ) → u < v → get_or colors u 0 ≤ 1
  pub right : (low : ℕ → ℕ) (odd : ℕ → Bool) → Holds low odd up flips → Sided odd v colors

pub colored_none : (n : ℕ) (up : List ℕ) (flips : List Bool) (colors : List ℕ) → Forest up flips → (n ≤ length up) × (n ≤ length colors) → Colored n up flips colors colors 0
colored_none n up flips colors forest room =
    record { forest = forest; room = room; size = refl; bound = omega arith; two = λ u h. absurd (not-suc-le-zero h); right = λ low odd holds u h. absurd (not-suc-le-zero h) }

hung_side : (flip odd : Bool) → cond flip (1 - cond odd 0 1) (cond odd 0 1) ≡ cond (xor flip odd) 0 1
unfolding xor
hung_side true true = refl
hung_side true false = refl
hung_side false true = refl
hung_side false false = refl

module _ (n : ℕ) (up : List ℕ) (flips : List Bool) (colors₀ : List ℕ) (colors : List ℕ) (v : ℕ) (colored : Colored n up flips colors₀ colors v) (more : v < n) where
  inside : v < length up
  inside = omega (arith, colored.room.0)

  colored_more : (c : ℕ) (colors' : List ℕ) → colors' ≡ set colors v c → c ≤ 1 → ((low : ℕ → ℕ) (odd : ℕ → Bool) → Holds low odd up flips → c ≡ cond (odd v) 0 1) → Colored n up flips colors₀ colors' (v + 1)
  colored_more c colors' p b e =
      let same = length-set colors v c in
      let new = get_or-set_same colors v c 0 (omega (arith, colored.room.1)) in
      rw p (record {
        forest = colored.forest;
        room = (colored.room.0, rw same colored.room.1);
        size = same ∙ colored.size;
        bound = omega arith;
        two = λ u h. elim (dec_eq u v) [ inl q ↦ rw (q, new) b | inr o ↦ rw (get_or-set_other colors v u c 0 o) (colored.two u (omega arith)) ];
        right = λ low odd holds u h. elim (dec_eq u v) [
          | inl q ↦ rw (q, new) (e low odd holds)
          | inr o ↦ rw (get_or-set_other colors v u c 0 o) (colored.right low odd holds u (omega arith))
        ];
      })

  pub colored_root : (colors' : List ℕ) → get_or up v 0 ≡ v → colors' ≡ set colors v 1 → Colored n up flips colors₀ colors' (v + 1)
  colored_root colors' p q = colored_more 1 colors' q (omega arith) (λ low odd holds. simp ((holds.hangs v inside).root p).1)

  module _ (hung : get_or up v 0 ≡ v → ⊥) where
    above_before : get_or up v 0 < v
    above_before = omega (arith, colored.forest.above v inside)

    pub above_colored : get_or up v 0 < length colors
    above_colored = omega (arith, above_before, colored.room.1)

    pub above_two : get_or colors (get_or up v 0) 0 ≤ 1
    above_two = colored.two (get_or up v 0) above_before

    pub colored_hung : (c : ℕ) (colors' : List ℕ) → c ≡ cond (get_or flips v false) (1 - get_or colors (get_or up v 0) 0) (get_or colors (get_or up v 0) 0) → colors' ≡ set colors v c → Colored n up flips colors₀ colors' (v + 1)
    colored_hung c colors' p q = colored_more c colors' q
        (rw p (by-test (get_or flips v false) (λ t. simp t (omega arith)) (λ t. simp t above_two)))
        (λ low odd holds. p ∙ rw (colored.right low odd holds (get_or up v 0) above_before, (holds.hangs v inside).side) (hung_side (get_or flips v false) (odd (get_or up v 0))))

pub colored_all : (ends : List ℕ) (m n : ℕ) (colors : List ℕ) → Sided (odd_side ends m) n colors → n ≤ length colors → take n colors ≡ sides ends m n
unfolding side_color
colored_all ends m n colors sided h = ext_get_or 0 (take n colors) (sides ends m n) (length-take-le n colors h ∙ sym (length_sides ends m n))
    (λ v b. let i : v < n = rw (length-take-le n colors h) at b in get_or-take n colors v 0 i ∙ (sided v i ∙ sym (sides_at ends m n v i)))
