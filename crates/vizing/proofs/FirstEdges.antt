-- The first k edges alone: what later edges don't change.
use Prim.Native.Nat.{ℕ, zero, suc, ◌≤◌, ◌<◌, ◌+◌, ◌*◌}
use mathlib.Core.Path.{◌≡◌, ap, ◌∙◌, refl, sym}
use mathlib.Core.Logic.{inl, inr, ◌≢◌}
use mathlib.Core.Bool.{Bool, false}
use mathlib.Core.List.{List, [], ◌∷◌, ◌++◌, map}
use native.Mathlib.Omega.{arith}
use native.Mathlib.Decide.{dec_lt}
use lib.ListN.{length, length-replicate, take}
use lib.Seq.{get_or-take, length-take-le}
use lib.Dec.{eqb}
use borrow.Author.Tests.{ne_eqb}
use Rattle.lists.proofs.Tests.{by-test}
use Rattle.lists.specs.Member.{Mem, Nodup}
use Rattle.lists.proofs.MemberLaws.{nodup_bound}
use Rattle.lists.specs.Search.{first_that}
use Rattle.lists.proofs.SearchLaws.{first_that_same}
use Rattle.graph.specs.Edges.{first_end, second_end, far_end, edges_at, edge_count, is_loop, second_at, first_edges, second_edges}
use Rattle.graph.proofs.EdgeLaws.{edges_at_nodup}
use Rattle.graph.specs.Color.{no_color}
use Rattle.graph.specs.Colored.{color_of, is_colored, colored_among, smallest_free_at}
use Rattle.vizing.specs.MisraGries.{edge_of_color, is_free, store, first_joining, path, swap, exchange, step, held_after, is_none, joins, Held, held}
use Rattle.vizing.proofs.StepForm.{grow_fan, last_far_end, places_to, rotate_places, step_parts, step_form}
use Rattle.graph.proofs.ColorLaws.{colored_inside, color_replicate, colored_edge, smallest_free_colored, is_colored_true, is_colored_false, colored_edges_append, colored_edges_keep, smallest_free_same}
use Rattle.vizing.proofs.DefinitionLaws.{some_or_none, edge_of_color_some, first_joining_some, length_store, color_store_other, false_joins, step_list, step_same}

-- ---- the step of an edge changes colours of that edge and of coloured edges only, so the edges after it stay without a colour

-- The edges from k on have no colour.
abbrev UncoloredFrom : List ℕ → ℕ → Type 0
UncoloredFrom l k = (j : ℕ) → k ≤ j → color_of l j ≡ no_color

pub colored_before : (l : List ℕ) (k : ℕ) → UncoloredFrom l k → (j : ℕ) → color_of l j ≢ no_color → j < k
colored_before l k rest j n = elim (dec_lt j k) [ yes h ↦ h | no h ↦ absurd (n (rest j (omega arith))) ]

-- ---- the smallest free colour is a colour, whatever the graph

colored_edges_nodup : (l ks : List ℕ) → Nodup ks → Nodup (colored_among l ks)
unfolding colored_among
colored_edges_nodup l [] u = tt
colored_edges_nodup l (k ∷ ks) u =
    by-test (is_colored l k)
    (λ t. rw (t, colored_among) (λ p. u.0 (colored_edge l ks k p).0, colored_edges_nodup l ks u.1))
    (λ t. rw (t, colored_among) (colored_edges_nodup l ks u.1))

-- Only edges with a place in the list are coloured.
colored_edges_few : (l ks : List ℕ) → Nodup ks → length (colored_among l ks) ≤ length l
colored_edges_few l ks u = nodup_bound (length l) (colored_among l ks) (colored_edges_nodup l ks u) (λ k p. colored_inside l k (colored_edge l ks k p).1)

module _ (ends : List ℕ) (m : ℕ) (l : List ℕ) where
  pub free_color_lem : length l < no_color → (v : ℕ) → smallest_free_at l (edges_at ends m v) ≢ no_color
  free_color_lem h v e = omega (arith, smallest_free_colored l (edges_at ends m v), colored_edges_few l (edges_at ends m v) (edges_at_nodup ends m v))

  -- ---- the fan and the path have coloured edges only

  fan_colored : (fuel u : ℕ) (fan : List ℕ) (x k : ℕ) → Mem k (grow_fan ends m fuel l u fan x) → color_of l k ≢ no_color
  unfolding grow_fan
  fan_colored zero u fan x k p = elim p [ ]
  fan_colored (suc fuel) u fan x k p = elim (some_or_none (first_joining l (edges_at ends m x) fan (edges_at ends m u))) [
    | inl e ↦ absurd (rw (e, grow_fan) at p)
    | inr (j, e) ↦ elim (rw (e, grow_fan) at p) [
      | inl q ↦ rw q (first_joining_some l (edges_at ends m x) fan (edges_at ends m u) j e).1.1
      | inr q ↦ fan_colored fuel u (j ∷ fan) (far_end ends j u) k q
    ]
  ]

  path_colored : (fuel v p q : ℕ) → p ≢ no_color → q ≢ no_color → (k : ℕ) → Mem k (path ends m fuel l v p q) → color_of l k ≢ no_color
  unfolding path
  path_colored zero v p q np nq k member = elim member [ ]
  path_colored (suc fuel) v p q np nq k member = elim (some_or_none (edge_of_color l p (edges_at ends m v))) [
    | inl e ↦ absurd (rw (e, path) at member)
    | inr (j, e) ↦ elim (rw (e, path) at member) [
      | inl s ↦ rw (s, (edge_of_color_some l p (edges_at ends m v) j e).1) np
      | inr s ↦ path_colored fuel (far_end ends j v) q p nq np k s
    ]
  ]

  pub places_in_fan : (d u x : ℕ) (ks : List ℕ) (k : ℕ) → Mem k (places_to ends m l d u x ks) → Mem k ks
  unfolding places_to
  places_in_fan d u x [] k p = elim p [ ]
  places_in_fan d u x (j ∷ ks) k p =
      by-test (is_free l (edges_at ends m x) d)
      (λ t. absurd (rw (t, places_to) at p))
      (λ t. elim (rw (t, places_to) at p) [ inl q ↦ inl q | inr q ↦ inr (places_in_fan d u (far_end ends j u) ks k q) ])

-- ---- the step

-- Storing at places before k leaves the edges from k on without a colour.
store_uncolored : (l ks cs : List ℕ) (k : ℕ) → UncoloredFrom l k → ((j : ℕ) → Mem j ks → j < k) → UncoloredFrom (store l ks cs) k
store_uncolored l ks cs k rest before j h = color_store_other l ks cs j (λ p. let b = before j p in omega arith) ∙ rest j h

module _ (ends : List ℕ) (m n : ℕ) where
  step_length : (l : List ℕ) (k : ℕ) → length (step ends m n l k) ≡ length l
  unfolding step_parts rotate_places exchange
  step_length l k =
      let f = step_parts ends m n l k in
      ap length (step_form ends m n l k)
      ∙ length_store f.exchanged (k ∷ f.places) (map (color_of f.exchanged) f.places ++ (f.d ∷ []))
      ∙ length_store l f.path (map (λ (j : ℕ). swap f.c f.d (color_of l j)) f.path)

  module _ (l : List ℕ) (few : length l < no_color) (k : ℕ) where
    exchanged_uncolored : (from : ℕ) → UncoloredFrom l from → UncoloredFrom (step_parts ends m n l k).exchanged from
    unfolding step_parts exchange
    exchanged_uncolored from rest =
        let f = step_parts ends m n l k in
        let u = first_end ends k in
        let nc = free_color_lem ends m l few u in
        let nd = free_color_lem ends m l few (last_far_end ends u (second_end ends k) f.fan) in
        store_uncolored l f.path (map (λ (j : ℕ). swap f.c f.d (color_of l j)) f.path) from rest
        (λ j p. colored_before l from rest j (path_colored ends m l n u f.d f.c nd nc j p))

    -- Where no edge from `from` on is coloured, the edges that join the fan come before it.
    fan_before : (from : ℕ) → UncoloredFrom l from → (j : ℕ) → Mem j (step_parts ends m n l k).fan → j < from
    unfolding step_parts
    fan_before from rest j p = colored_before l from rest j (fan_colored ends m l 4096 (first_end ends k) (k ∷ []) (second_end ends k) j p)

    step_uncolored : UncoloredFrom l k → UncoloredFrom (step ends m n l k) (suc k)
    unfolding rotate_places step_parts
    step_uncolored rest =
        let f = step_parts ends m n l k in
        rw (step_form ends m n l k)
        (store_uncolored f.exchanged (k ∷ f.places) (map (color_of f.exchanged) f.places ++ (f.d ∷ [])) (suc k)
        (λ j h. exchanged_uncolored k rest j (omega arith))
        (λ j p. elim p [
          | inl q ↦ omega arith
          | inr q ↦ omega (arith, fan_before k rest j (places_in_fan ends m _ _ _ _ f.fan j q))
        ]))

  -- ---- the run

  pub held_length : (k : ℕ) → length (held_after ends m n k).list ≡ 4096
  unfolding held_after
  held_length zero = length-replicate 4096 no_color
  held_length (suc k) = ap length (step_list ends m n (held_after ends m n k) k) ∙ step_length (held_after ends m n k).list k ∙ held_length k

  -- "places from k on then still hold 65,535"
  pub held_uncolored : (k : ℕ) → UncoloredFrom (held_after ends m n k).list k
  unfolding held_after
  held_uncolored zero j h = color_replicate 4096 j
  held_uncolored (suc k) j h = ap (λ (l : List ℕ). color_of l j) (step_list ends m n (held_after ends m n k) k) ∙ step_uncolored (held_after ends m n k).list (omega (arith, held_length k)) k (held_uncolored k) j h

-- The first edges alone: their run, in their own incidence order, holds what the whole run holds after them.

-- ---- a search over a node's edges sees only the coloured ones

-- Where only coloured edges pass the test.
first_colored : (t : ℕ → Bool) (l ks : List ℕ) → ((k : ℕ) → is_colored l k ≡ false → t k ≡ false) → first_that t ks ≡ first_that t (colored_among l ks)
unfolding first_that colored_among
first_colored t l [] only = refl
first_colored t l (k ∷ ks) only =
    by-test (is_colored l k)
    (λ p. by-test (t k) (λ s. rw (p, first_that, s)) (λ s. rw (p, first_that, s) (first_colored t l ks only)))
    (λ p. rw (p, first_that, only k p) (first_colored t l ks only))

edge_of_color_colored : (l : List ℕ) (c : ℕ) (ks : List ℕ) → c ≢ no_color → edge_of_color l c ks ≡ edge_of_color l c (colored_among l ks)
unfolding edge_of_color
edge_of_color_colored l c ks nc = first_colored (λ k. eqb (color_of l k) c) l ks (λ k p. ne_eqb (color_of l k) c (λ e. nc (sym e ∙ is_colored_false l k p)))

joins_colored : (l ks fan : List ℕ) (k : ℕ) → joins l ks fan k ≡ joins l (colored_among l ks) fan k
unfolding joins is_free
joins_colored l ks fan k =
    by-test (is_colored l k)
    (λ t. rw (edge_of_color_colored l (color_of l k) ks (is_colored_true l k t)))
    (λ t. rw t)

first_joining_colored : (l ks fan candidates : List ℕ) → first_joining l ks fan candidates ≡ first_joining l (colored_among l ks) fan (colored_among l candidates)
unfolding first_joining
first_joining_colored l ks fan candidates =
    first_colored (joins l ks fan) l candidates (λ k p. false_joins l ks fan k (λ j. j.1 (is_colored_false l k p)))
    ∙ first_that_same (joins l ks fan) (joins l (colored_among l ks) fan) (colored_among l candidates) (λ k p. joins_colored l ks fan k)

-- So two lists with the same coloured edges give the same.
module _ (l js ks : List ℕ) (same : colored_among l js ≡ colored_among l ks) where
  edge_of_color_same : (c : ℕ) → c ≢ no_color → edge_of_color l c js ≡ edge_of_color l c ks
  edge_of_color_same c nc = edge_of_color_colored l c js nc ∙ ap (edge_of_color l c) same ∙ sym (edge_of_color_colored l c ks nc)

  is_free_same : (c : ℕ) → c ≢ no_color → is_free l js c ≡ is_free l ks c
  unfolding is_free
  is_free_same c nc = ap is_none (edge_of_color_same c nc)

first_joining_same : (l js ks fan ps qs : List ℕ) → colored_among l js ≡ colored_among l ks → colored_among l ps ≡ colored_among l qs → first_joining l js fan ps ≡ first_joining l ks fan qs
first_joining_same l js ks fan ps qs d e = first_joining_colored l js fan ps ∙ rw (d, e) (sym (first_joining_colored l ks fan qs))

-- ---- edges without a colour at the end of the list

module _ (ends l : List ℕ) (v K : ℕ) (rest : UncoloredFrom l K) where
  first_edges_colored : (m : ℕ) → K ≤ m → colored_among l (first_edges ends K v) ≡ colored_among l (first_edges ends m v)
  unfolding first_edges
  first_edges_colored zero h = let e : K ≡ zero = omega arith in rw e
  first_edges_colored (suc m) h = elim (dec_lt m K) [
    | yes b ↦ let e : K ≡ suc m = omega arith in rw e
    | no b ↦ first_edges_colored m (omega arith) ∙ sym (colored_edges_keep l (eqb (first_end ends m) v) m (first_edges ends m v) (rest m (omega arith)))
  ]

  second_edges_colored : (m : ℕ) → K ≤ m → colored_among l (second_edges ends K v) ≡ colored_among l (second_edges ends m v)
  unfolding second_edges
  second_edges_colored zero h = let e : K ≡ zero = omega arith in rw e
  second_edges_colored (suc m) h = elim (dec_lt m K) [
    | yes b ↦ let e : K ≡ suc m = omega arith in rw e
    | no b ↦ second_edges_colored m (omega arith) ∙ sym (colored_edges_keep l (second_at ends m v) m (second_edges ends m v) (rest m (omega arith)))
  ]

  edges_at_colored : (m : ℕ) → K ≤ m → colored_among l (edges_at ends K v) ≡ colored_among l (edges_at ends m v)
  unfolding edges_at
  edges_at_colored m h =
      colored_edges_append l (first_edges ends K v) (second_edges ends K v)
      ∙ rw (first_edges_colored m h, second_edges_colored m h) (sym (colored_edges_append l (first_edges ends m v) (second_edges ends m v)))

-- ---- two end lists that agree on the first K edges

module _ (first ends : List ℕ) (K : ℕ) (agree : (j : ℕ) → j < K → (first_end first j ≡ first_end ends j) × (second_end first j ≡ second_end ends j)) where
  first_edges_agree : (k v : ℕ) → k ≤ K → first_edges first k v ≡ first_edges ends k v
  unfolding first_edges
  first_edges_agree zero v h = refl
  first_edges_agree (suc k) v h = rw ((agree k h).0, first_edges_agree k v (omega arith))

  second_edges_agree : (k v : ℕ) → k ≤ K → second_edges first k v ≡ second_edges ends k v
  unfolding second_edges second_at is_loop
  second_edges_agree zero v h = refl
  second_edges_agree (suc k) v h = rw ((agree k h).0, (agree k h).1, second_edges_agree k v (omega arith))

  edges_at_agree : (v : ℕ) → edges_at first K v ≡ edges_at ends K v
  unfolding edges_at
  edges_at_agree v = rw (first_edges_agree K v (omega arith), second_edges_agree K v (omega arith))

  far_end_agree : (j v : ℕ) → j < K → far_end first j v ≡ far_end ends j v
  unfolding far_end
  far_end_agree j v h = rw ((agree j h).0, (agree j h).1)

  last_far_end_agree : (u x : ℕ) (fan : List ℕ) → ((j : ℕ) → Mem j fan → j < K) → last_far_end first u x fan ≡ last_far_end ends u x fan
  unfolding last_far_end
  last_far_end_agree u x [] before = refl
  last_far_end_agree u x (k ∷ fan) before = rw (far_end_agree k u (before k (inl refl))) (last_far_end_agree u (far_end ends k u) fan (λ j p. before j (inr p)))

  module _ (m : ℕ) (K≤m : K ≤ m) (l : List ℕ) (rest : UncoloredFrom l K) where
    same_colored : (v : ℕ) → colored_among l (edges_at first K v) ≡ colored_among l (edges_at ends m v)
    same_colored v = rw (edges_at_agree v) (edges_at_colored ends l v K rest m K≤m)

    grow_fan_agree : (fuel u : ℕ) (fan : List ℕ) (x : ℕ) → grow_fan first K fuel l u fan x ≡ grow_fan ends m fuel l u fan x
    unfolding grow_fan
    grow_fan_agree zero u fan x = refl
    grow_fan_agree (suc fuel) u fan x =
        let e = first_joining_same l (edges_at first K x) (edges_at ends m x) fan (edges_at first K u) (edges_at ends m u) (same_colored x) (same_colored u) in
        elim (some_or_none (first_joining l (edges_at ends m x) fan (edges_at ends m u))) [
          | inl p ↦ rw (e, p, grow_fan)
          | inr (k, p) ↦
              let colored = (first_joining_some l (edges_at ends m x) fan (edges_at ends m u) k p).1.1 in
              rw (e, p, grow_fan, far_end_agree k u (colored_before l K rest k colored), grow_fan_agree fuel u (k ∷ fan) (far_end ends k u))
        ]

    path_agree : (fuel v p q : ℕ) → p ≢ no_color → q ≢ no_color → path first K fuel l v p q ≡ path ends m fuel l v p q
    unfolding path
    path_agree zero v p q np nq = refl
    path_agree (suc fuel) v p q np nq =
        let e = edge_of_color_same l (edges_at first K v) (edges_at ends m v) (same_colored v) p np in
        elim (some_or_none (edge_of_color l p (edges_at ends m v))) [
          | inl s ↦ rw (e, s, path)
          | inr (k, s) ↦
              let colored : color_of l k ≢ no_color = rw (edge_of_color_some l p (edges_at ends m v) k s).1 np in
              rw (e, s, path, far_end_agree k v (colored_before l K rest k colored), path_agree fuel (far_end ends k v) q p nq np)
        ]

    places_agree : (d u x : ℕ) (fan : List ℕ) → d ≢ no_color → ((j : ℕ) → Mem j fan → j < K) → places_to first K l d u x fan ≡ places_to ends m l d u x fan
    unfolding places_to
    places_agree d u x [] nd before = refl
    places_agree d u x (k ∷ fan) nd before =
        let e = is_free_same l (edges_at first K x) (edges_at ends m x) (same_colored x) d nd in
        by-test (is_free l (edges_at ends m x) d)
        (λ t. rw (e, t, places_to))
        (λ t. rw (e, t, places_to, far_end_agree k u (before k (inl refl)), places_agree d u (far_end ends k u) fan nd (λ j p. before j (inr p))))

  module _ (m n : ℕ) (K≤m : K ≤ m) where
    parts_agree : (l : List ℕ) → length l < no_color → UncoloredFrom l K → (k : ℕ) → k < K → step_parts first K n l k ≡ step_parts ends m n l k
    unfolding step_parts
    parts_agree l few rest k h =
        let f = step_parts ends m n l k in
        let u = first_end ends k in
        let v = second_end ends k in
        let x = last_far_end ends u v f.fan in
        let nc = free_color_lem ends m l few u in
        let nd = free_color_lem ends m l few x in
        rw (
          (agree k h).0,
          (agree k h).1,
          grow_fan_agree m K≤m l rest 4096 u (k ∷ []) v,
          last_far_end_agree u v f.fan (fan_before ends m n l few k K rest),
          smallest_free_same l (edges_at first K u) (edges_at ends m u) (same_colored m K≤m l rest u),
          smallest_free_same l (edges_at first K x) (edges_at ends m x) (same_colored m K≤m l rest x),
          path_agree m K≤m l rest n u f.d f.c nd nc,
          places_agree m K≤m f.exchanged (exchanged_uncolored ends m n l few k K rest) f.d u v f.fan nd (fan_before ends m n l few k K rest),
        )

    step_agree : (l : List ℕ) → length l < no_color → UncoloredFrom l K → (k : ℕ) → k < K → step first K n l k ≡ step ends m n l k
    step_agree l few rest k h = rw (step_form first K n l k, step_form ends m n l k, parts_agree l few rest k h)

    held_agree : (k : ℕ) → k ≤ K → held_after first K n k ≡ held_after ends m n k
    unfolding held_after
    held_agree zero h = refl
    held_agree (suc k) h =
        let l = (held_after ends m n k).list in
        rw (held_agree k (omega arith)) (step_same ends m n (held_after ends m n k) k first K (step_agree l (omega (arith, held_length ends m n k)) (λ j b. held_uncolored ends m n k j (omega arith)) k h))

-- ---- the first k edges

pub first_end_take : (ends : List ℕ) (k j : ℕ) → j < k → first_end (take (2 * k) ends) j ≡ first_end ends j
unfolding first_end
first_end_take ends k j h = get_or-take (2 * k) ends (2 * j) 0 (omega arith)

pub second_end_take : (ends : List ℕ) (k j : ℕ) → j < k → second_end (take (2 * k) ends) j ≡ second_end ends j
unfolding second_end
second_end_take ends k j h = get_or-take (2 * k) ends (2 * j + 1) 0 (omega arith)

pub edge_count_take : (ends : List ℕ) (k : ℕ) → k ≤ edge_count ends → (length (take (2 * k) ends) ≡ 2 * k) × (edge_count (take (2 * k) ends) ≡ k)
edge_count_take ends k h = let e = length-take-le (2 * k) ends (omega arith) in (e, omega (arith, e))

-- The list and the tally after the first k edges alone are those of the whole run after its kth edge.
pub held_first : (n : ℕ) (ends : List ℕ) (k : ℕ) → k ≤ edge_count ends → held_after (take (2 * k) ends) k n k ≡ held_after ends (edge_count ends) n k
held_first n ends k h = held_agree (take (2 * k) ends) ends k (λ j b. (first_end_take ends k j b, second_end_take ends k j b)) (edge_count ends) n h k (omega arith)

pub held_take : (n : ℕ) (ends : List ℕ) (k : ℕ) → k ≤ edge_count ends → held n (take (2 * k) ends) k ≡ held n ends k
unfolding held
held_take n ends k h =
    ap (λ (m : ℕ). (held_after (take (2 * k) ends) m n k).list) (edge_count_take ends k h).1
    ∙ ap (λ (after : Held). after.list) (held_first n ends k h)
