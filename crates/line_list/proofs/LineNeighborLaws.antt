-- Laws of the neighbours in the line list: which they are, how many, and how often each.
use Prim.Native.Nat.{ℕ, zero, suc, ◌+◌, ◌*◌, ◌<◌}
use mathlib.Core.Bool.{true, false}
use mathlib.Core.List.{List, [], ◌∷◌, ◌++◌, reverse, append-nil, reverse-cons}
use mathlib.Core.Logic.{◌⊎◌, inl, inr, ◌≢◌}
use mathlib.Core.Path.{◌≡◌, refl, sym, ap, subst, ◌∙◌}
use native.Mathlib.Nat.{not-suc-le-zero}
use native.Mathlib.Omega.{arith}
use lib.Dec.{ltb}
use lib.ListN.{length, get_or, length-append, length-reverse}
use borrow.Author.Tests.{eq-eqb, ne_eqb, ltb-true, ltb-false}
use Rattle.lists.proofs.Tests.{by-test, dec_eq}
use Rattle.lists.specs.Member.{Mem, Nodup}
use Rattle.lists.proofs.MemberLaws.{mem_append, mem_append_left, mem_append_right, mem_get_or, count_append, count_here, count_there, count_none}
use Rattle.lists.specs.Different.{count}
use Rattle.graph.specs.Edges.{edge_count, first_end, second_end, is_loop, edges_at, degree, neighbors, At}
use Rattle.graph.proofs.EdgeLaws.{edge_at, at_edge, edges_at_nodup}
use Rattle.graph.proofs.NeighborLaws.{degree_bound}
use Rattle.graph.proofs.TableLaws.{Inside}
use Rattle.line_list.specs.LineList.{pairs_with, pairs_of, line_pairs}
use Rattle.line_list.specs.LineNeighbors.{before_in, after_in, later_at, earlier_at, higher_end, lower_end, line_neighbors}
use Rattle.line_list.proofs.PairLaws.{first_far, second_far, neighbors_far, Paired, paired_even, paired_append, paired_of, first_append, second_append, after_none, no_firsts, no_seconds, first_of, second_of_none, second_of, split_in, before_member, after_member}

-- ---- the whole list of pairs

pairs_paired : (ends : List ℕ) (m n : ℕ) → Paired (line_pairs ends m n)
unfolding line_pairs
pairs_paired ends m zero = tt
pairs_paired ends m (suc v) = paired_append (line_pairs ends m v) (pairs_of (edges_at ends m v)) (pairs_paired ends m v) (paired_of (edges_at ends m v))

pairs_even : (ends : List ℕ) (m n : ℕ) → length (line_pairs ends m n) ≡ 2 * edge_count (line_pairs ends m n)
pairs_even ends m n = paired_even (line_pairs ends m n) (pairs_paired ends m n)

with_member : (k j : ℕ) (js : List ℕ) → Mem j (pairs_with k js) → (j ≡ k) ⊎ Mem j js
unfolding pairs_with
with_member k j [] x' = elim x' [ ]
with_member k j (i ∷ js) (inl p) = inl p
with_member k j (i ∷ js) (inr (inl p)) = inr (inl p)
with_member k j (i ∷ js) (inr (inr p)) = elim (with_member k j js p) [ inl q ↦ inl q | inr q ↦ inr (inr q) ]

of_member : (j : ℕ) (ks : List ℕ) → Mem j (pairs_of ks) → Mem j ks
unfolding pairs_of
of_member j [] p = elim p [ ]
of_member j (k ∷ ks) p = elim (mem_append j (pairs_with k ks) (pairs_of ks) p) [ inl q ↦ with_member k j ks q | inr q ↦ inr (of_member j ks q) ]

-- Every number of the line list is an edge below m.
pairs_inside : (ends : List ℕ) (m n j : ℕ) → Mem j (line_pairs ends m n) → j < m
unfolding line_pairs
pairs_inside ends m zero j p = elim p [ ]
pairs_inside ends m (suc v) j p = elim (mem_append j (line_pairs ends m v) (pairs_of (edges_at ends m v)) p) [
  | inl q ↦ pairs_inside ends m v j q
  | inr q ↦ (edge_at ends m v j (of_member j (edges_at ends m v) q)).0
]

-- The line list is an edge list over the nodes below m.
pub pair_ends_inside : (ends : List ℕ) (m n : ℕ) → Inside (line_pairs ends m n) (edge_count (line_pairs ends m n)) m
unfolding first_end second_end
pair_ends_inside ends m n j h =
    let l = line_pairs ends m n in
    let e = pairs_even ends m n in
    (pairs_inside ends m n (get_or l (2 * j) 0) (mem_get_or l (2 * j) 0 (omega arith)), pairs_inside ends m n (get_or l (2 * j + 1) 0) (mem_get_or l (2 * j + 1) 0 (omega arith)))

-- ---- of the nodes only the ends of k have pairs with k

-- The lists of the numbers below n in a row, the last one first.
unfoldable gathered : (ℕ → List ℕ) → ℕ → List ℕ
gathered rows zero = []
gathered rows (suc v) = rows v ++ gathered rows v

module _ (rows : ℕ → List ℕ) where
  gathered_none : (n : ℕ) → ((v : ℕ) → v < n → rows v ≡ []) → gathered rows n ≡ []
  unfolding gathered
  gathered_none zero e = refl
  gathered_none (suc v) e = rw (e v (omega arith), gathered_none v (λ w h. e w (omega arith)))

  gathered_one : (n a : ℕ) → a < n → ((v : ℕ) → v < n → v ≢ a → rows v ≡ []) → gathered rows n ≡ rows a
  unfolding gathered
  gathered_one zero a h e = absurd (not-suc-le-zero h)
  gathered_one (suc v) a h e = elim (dec_eq a v) [
    | inl p ↦ rw (p, gathered_none v (λ w b. e w (omega arith) (λ q. omega arith))) (append-nil (rows v))
    | inr p ↦ rw (e v (omega arith) (λ q. p (sym q))) (gathered_one v a (omega arith) (λ w b. e w (omega arith)))
  ]

  gathered_two : (n low high : ℕ) → low < high → high < n → ((v : ℕ) → v < n → v ≢ low → v ≢ high → rows v ≡ []) → gathered rows n ≡ rows high ++ rows low
  unfolding gathered
  gathered_two zero low high l h e = absurd (not-suc-le-zero h)
  gathered_two (suc v) low high l h e = elim (dec_eq high v) [
    | inl p ↦ rw p (ap (λ (r : List ℕ). rows v ++ r) (gathered_one v low (omega arith) (λ w b o. e w (omega arith) o (λ q. omega arith))))
    | inr p ↦ rw (e v (omega arith) (λ q. omega arith) (λ q. p (sym q))) (gathered_two v low high l (omega arith) (λ w b. e w (omega arith)))
  ]

module _ (ends : List ℕ) (m k : ℕ) where
  -- What the pairs at v give of k's neighbours.
  abbrev firsts_at : ℕ → List ℕ
  firsts_at v = first_far k (pairs_of (edges_at ends m v))

  abbrev seconds_at : ℕ → List ℕ
  seconds_at v = second_far k (pairs_of (edges_at ends m v))

  first_gathered : (n : ℕ) → first_far k (line_pairs ends m n) ≡ gathered firsts_at n
  unfolding line_pairs gathered
  first_gathered zero = no_firsts k
  first_gathered (suc v) = first_append k (line_pairs ends m v) (pairs_of (edges_at ends m v)) (pairs_paired ends m v) ∙ ap (λ (r : List ℕ). firsts_at v ++ r) (first_gathered v)

  second_gathered : (n : ℕ) → second_far k (line_pairs ends m n) ≡ gathered seconds_at n
  unfolding line_pairs gathered
  second_gathered zero = no_seconds k
  second_gathered (suc v) = second_append k (line_pairs ends m v) (pairs_of (edges_at ends m v)) (pairs_paired ends m v) ∙ ap (λ (r : List ℕ). seconds_at v ++ r) (second_gathered v)

  firsts_later : (v : ℕ) → firsts_at v ≡ later_at ends m k v
  unfolding later_at
  firsts_later v = first_of k (edges_at ends m v) (edges_at_nodup ends m v)

  seconds_earlier : (v : ℕ) → k < m → At ends k v → seconds_at v ≡ earlier_at ends m k v
  unfolding earlier_at
  seconds_earlier v h p = second_of k (edges_at ends m v) (edges_at_nodup ends m v) (at_edge ends m v k h p)

  firsts_none : (v : ℕ) → (At ends k v → ⊥) → firsts_at v ≡ []
  firsts_none v n = first_of k (edges_at ends m v) (edges_at_nodup ends m v) ∙ ap reverse (after_none k (edges_at ends m v) (λ p. n (edge_at ends m v k p).1))

  seconds_none : (v : ℕ) → (At ends k v → ⊥) → seconds_at v ≡ []
  seconds_none v n = second_of_none k (edges_at ends m v) (λ p. n (edge_at ends m v k p).1)

-- ---- the ends of an edge, in order

-- The two cases of an edge: its end, if it is a loop, or its lower and its higher end.
data EndCases (ends : List ℕ) (k : ℕ) : Type 0 where
  loop : is_loop ends k ≡ true → first_end ends k ≡ second_end ends k → EndCases ends k
  apart : is_loop ends k ≡ false → lower_end ends k < higher_end ends k → At ends k (lower_end ends k) → At ends k (higher_end ends k)
      → ((v : ℕ) → At ends k v → (v ≡ lower_end ends k) ⊎ (v ≡ higher_end ends k)) → EndCases ends k

end_cases : (ends : List ℕ) (k : ℕ) → EndCases ends k
unfolding is_loop lower_end higher_end
end_cases ends k =
    let a = first_end ends k in
    let b = second_end ends k in
    elim (dec_eq a b) [
      | inl e ↦ loop (eq-eqb a b e) e
      | inr n ↦ by-test (ltb a b)
          (λ t. apart (ne_eqb a b n) (rw t (ltb-true a b t)) (rw t (inl refl)) (rw t (inr refl)) (λ v p. rw t (elim p [ inl e ↦ inl (sym e) | inr e ↦ inr (sym e) ])))
          (λ t. apart (ne_eqb a b n) (let h = ltb-false a b t in rw t (omega arith)) (rw t (inr refl)) (rw t (inl refl)) (λ v p. rw t (elim p [ inl e ↦ inr (sym e) | inr e ↦ inl (sym e) ])))
    ]

-- ---- the neighbours

pub loop_neighbors : (ends : List ℕ) (m k : ℕ) → is_loop ends k ≡ true → line_neighbors ends m k ≡ later_at ends m k (first_end ends k) ++ earlier_at ends m k (first_end ends k)
unfolding line_neighbors
loop_neighbors ends m k e = rw e

pub apart_neighbors : (ends : List ℕ) (m k : ℕ) → is_loop ends k ≡ false
    → line_neighbors ends m k ≡ (later_at ends m k (higher_end ends k) ++ later_at ends m k (lower_end ends k)) ++ (earlier_at ends m k (higher_end ends k) ++ earlier_at ends m k (lower_end ends k))
unfolding line_neighbors
apart_neighbors ends m k e = rw e

at_inside : (ends : List ℕ) (m n k v : ℕ) → Inside ends m n → k < m → At ends k v → v < n
at_inside ends m n k v inside h (inl p) = omega (arith, (inside k h).0)
at_inside ends m n k v inside h (inr p) = omega (arith, (inside k h).1)

-- The neighbours of node k in the line list, in incidence order, are the edges that share an end with edge k.
pub line_neighbors_lem : (ends : List ℕ) (m n k : ℕ) → Inside ends m n → k < m → neighbors (line_pairs ends m n) (edge_count (line_pairs ends m n)) k ≡ line_neighbors ends m k
line_neighbors_lem ends m n k inside h =
    neighbors_far k (line_pairs ends m n) ∙ (ap (λ (r : List ℕ). r ++ second_far k (line_pairs ends m n)) (first_gathered ends m k n) ∙ (ap (λ (r : List ℕ). gathered (firsts_at ends m k) n ++ r) (second_gathered ends m k n) ∙ go (end_cases ends k)))
  where
    go : EndCases ends k → gathered (firsts_at ends m k) n ++ gathered (seconds_at ends m k) n ≡ line_neighbors ends m k
    go (loop t e) =
        let a = first_end ends k in
        let other : (v : ℕ) → v ≢ a → At ends k v → ⊥ = λ v o p. elim p [ inl q ↦ o (sym q) | inr q ↦ o (sym q ∙ sym e) ] in
        rw (
          gathered_one (firsts_at ends m k) n a (inside k h).0 (λ v b o. firsts_none ends m k v (other v o)),
          gathered_one (seconds_at ends m k) n a (inside k h).0 (λ v b o. seconds_none ends m k v (other v o)),
          firsts_later ends m k a,
          seconds_earlier ends m k a h (inl refl),
        )
        (sym (loop_neighbors ends m k t))
    go (apart t l p q two) =
        let low = lower_end ends k in
        let high = higher_end ends k in
        let other : (v : ℕ) → v ≢ low → v ≢ high → At ends k v → ⊥ = λ v o o' r. elim (two v r) [ inl s ↦ o s | inr s ↦ o' s ] in
        rw (
          gathered_two (firsts_at ends m k) n low high l (at_inside ends m n k high inside h q) (λ v b o o'. firsts_none ends m k v (other v o o')),
          gathered_two (seconds_at ends m k) n low high l (at_inside ends m n k high inside h q) (λ v b o o'. seconds_none ends m k v (other v o o')),
          firsts_later ends m k high,
          firsts_later ends m k low,
          seconds_earlier ends m k high h q,
          seconds_earlier ends m k low h p,
        )
        (sym (apart_neighbors ends m k t))

-- ---- which they are

reverse_member : (j : ℕ) (ks : List ℕ) → Mem j (reverse ks) → Mem j ks
reverse_member j [] p = p
reverse_member j (k ∷ ks) p = elim (mem_append j (reverse ks) (k ∷ []) (rw (reverse-cons k ks) at p)) [
  | inl q ↦ inr (reverse_member j ks q)
  | inr (inl q) ↦ inl q
  | inr (inr q) ↦ elim q [ ]
]

member_reverse : (j : ℕ) (ks : List ℕ) → Mem j ks → Mem j (reverse ks)
member_reverse j [] x' = elim x' [ ]
member_reverse j (k ∷ ks) (inl p) = rw (reverse-cons k ks) (mem_append_right j (reverse ks) (k ∷ []) (inl p))
member_reverse j (k ∷ ks) (inr p) = rw (reverse-cons k ks) (mem_append_left j (reverse ks) (k ∷ []) (member_reverse j ks p))

module _ (ends : List ℕ) (m k : ℕ) where
  -- An edge at v other than k.
  abbrev Other : ℕ → ℕ → Type 0
  Other v j = (j < m) × (j ≢ k) × At ends j v

  later_member : (v j : ℕ) → Mem j (later_at ends m k v) → Other v j
  unfolding later_at
  later_member v j p =
      let r = after_member k j (edges_at ends m v) (edges_at_nodup ends m v) (reverse_member j (after_in k (edges_at ends m v)) p) in
      let e = edge_at ends m v j r.0 in
      (e.0, r.1, e.1)

  earlier_member : (v j : ℕ) → Mem j (earlier_at ends m k v) → Other v j
  unfolding earlier_at
  earlier_member v j p =
      let r = before_member k j (edges_at ends m v) (reverse_member j (before_in k (edges_at ends m v)) p) in
      let e = edge_at ends m v j r.0 in
      (e.0, r.1, e.1)

  member_other : (v j : ℕ) → k < m → At ends k v → Other v j → Mem j (later_at ends m k v) ⊎ Mem j (earlier_at ends m k v)
  unfolding later_at earlier_at
  member_other v j h p o =
      let l = edges_at ends m v in
      let q : Mem j (before_in k l ++ (k ∷ after_in k l)) = subst (Mem j) (split_in k l (at_edge ends m v k h p)) (at_edge ends m v j o.0 o.2) in
      elim (mem_append j (before_in k l) (k ∷ after_in k l) q) [
        | inl r ↦ inr (member_reverse j (before_in k l) r)
        | inr (inl r) ↦ absurd (o.1 r)
        | inr (inr r) ↦ inl (member_reverse j (after_in k l) r)
      ]

  -- A neighbour of k is another edge that has an end of k.
  pub line_neighbor_member : (j : ℕ) → Mem j (line_neighbors ends m k) → (j < m) × (j ≢ k) × ((v : ℕ) × At ends k v × At ends j v)
  line_neighbor_member j p = go (end_cases ends k)
    where
      told : (v : ℕ) → At ends k v → Other v j → (j < m) × (j ≢ k) × ((v : ℕ) × At ends k v × At ends j v)
      told v q o = (o.0, o.1, (v, q, o.2))

      go : EndCases ends k → (j < m) × (j ≢ k) × ((v : ℕ) × At ends k v × At ends j v)
      go (loop t e) =
          let a = first_end ends k in
          elim (mem_append j (later_at ends m k a) (earlier_at ends m k a) (rw (loop_neighbors ends m k t) at p)) [
            | inl q ↦ told a (inl refl) (later_member a j q)
            | inr q ↦ told a (inl refl) (earlier_member a j q)
          ]
      go (apart t l low high two) =
          let b = higher_end ends k in
          let a = lower_end ends k in
          elim (mem_append j (later_at ends m k b ++ later_at ends m k a) (earlier_at ends m k b ++ earlier_at ends m k a) (rw (apart_neighbors ends m k t) at p)) [
            | inl q ↦ elim (mem_append j (later_at ends m k b) (later_at ends m k a) q) [
              | inl r ↦ told b high (later_member b j r)
              | inr r ↦ told a low (later_member a j r)
            ]
            | inr q ↦ elim (mem_append j (earlier_at ends m k b) (earlier_at ends m k a) q) [
              | inl r ↦ told b high (earlier_member b j r)
              | inr r ↦ told a low (earlier_member a j r)
            ]
          ]

  pub member_line_neighbor : (j v : ℕ) → k < m → j < m → j ≢ k → At ends k v → At ends j v → Mem j (line_neighbors ends m k)
  member_line_neighbor j v h b n p q = go (end_cases ends k)
    where
      go : EndCases ends k → Mem j (line_neighbors ends m k)
      go (loop t e) =
          let a = first_end ends k in
          let f : v ≡ a = elim p [ inl r ↦ sym r | inr r ↦ sym r ∙ sym e ] in
          rw (loop_neighbors ends m k t) (elim (member_other a j h (inl refl) (b, n, rw f at q)) [
            | inl r ↦ mem_append_left j (later_at ends m k a) (earlier_at ends m k a) r
            | inr r ↦ mem_append_right j (later_at ends m k a) (earlier_at ends m k a) r
          ])
      go (apart t l low high two) =
          let c = higher_end ends k in
          let a = lower_end ends k in
          let s = later_at ends m k c ++ later_at ends m k a in
          let w = earlier_at ends m k c ++ earlier_at ends m k a in
          rw (apart_neighbors ends m k t) (elim (two v p) [
            | inl f ↦ elim (member_other a j h low (b, n, rw f at q)) [
              | inl r ↦ mem_append_left j s w (mem_append_right j (later_at ends m k c) (later_at ends m k a) r)
              | inr r ↦ mem_append_right j s w (mem_append_right j (earlier_at ends m k c) (earlier_at ends m k a) r)
            ]
            | inr f ↦ elim (member_other c j h high (b, n, rw f at q)) [
              | inl r ↦ mem_append_left j s w (mem_append_left j (later_at ends m k c) (later_at ends m k a) r)
              | inr r ↦ mem_append_right j s w (mem_append_left j (earlier_at ends m k c) (earlier_at ends m k a) r)
            ]
          ])

-- ---- how many, and how often

-- The two ends in either order.
ends_sum : (f : ℕ → ℕ) (ends : List ℕ) (k : ℕ) → f (higher_end ends k) + f (lower_end ends k) ≡ f (first_end ends k) + f (second_end ends k)
unfolding higher_end lower_end
ends_sum f ends k = by-test (ltb (first_end ends k) (second_end ends k)) (λ t. rw t (omega arith)) (λ t. rw t)

count_reverse : (j : ℕ) (ks : List ℕ) → count j (reverse ks) ≡ count j ks
count_reverse j [] = refl
count_reverse j (k ∷ ks) =
    ap (count j) (reverse-cons k ks) ∙ omega (arith, count_append j (reverse ks) (k ∷ []), count_append j (k ∷ []) ks, count_reverse j ks)

-- An edge stands once at each of its ends, and nowhere else.
pub count_at_lem : (ends : List ℕ) (m v j : ℕ) → j < m → At ends j v → count j (edges_at ends m v) ≡ 1
count_at_lem ends m v j h p = once (edges_at ends m v) (edges_at_nodup ends m v) (at_edge ends m v j h p)
  where
    once : (ks : List ℕ) → Nodup ks → Mem j ks → count j ks ≡ 1
    once [] u q = elim q [ ]
    once (k ∷ ks) u q = elim (dec_eq j k) [
      | inl e ↦ rw (← e) (count_here j ks ∙ ap suc (count_none j ks (λ r. u.0 (rw e at r))))
      | inr n ↦ elim q [
        | inl e ↦ absurd (n e)
        | inr r ↦ count_there j k ks n ∙ once ks u.1 r
      ]
    ]

module _ (ends : List ℕ) (m k : ℕ) (h : k < m) where
  length_at : (v : ℕ) → At ends k v → length (later_at ends m k v) + length (earlier_at ends m k v) + 1 ≡ degree ends m v
  unfolding later_at earlier_at degree
  length_at v p =
      let l = edges_at ends m v in
      omega (arith, length-reverse (after_in k l), length-reverse (before_in k l), ap length (split_in k l (at_edge ends m v k h p)) ∙ length-append (before_in k l) (k ∷ after_in k l))

  times_at : (j v : ℕ) → j ≢ k → At ends k v → count j (later_at ends m k v) + count j (earlier_at ends m k v) ≡ count j (edges_at ends m v)
  unfolding later_at earlier_at
  times_at j v n p =
      let l = edges_at ends m v in
      omega (arith, count_reverse j (after_in k l), count_reverse j (before_in k l), ap (count j) (split_in k l (at_edge ends m v k h p)) ∙ count_append j (before_in k l) (k ∷ after_in k l), count_there j k (after_in k l) n)

  -- The number of neighbours: each other edge at each end.
  pub line_neighbor_count : first_end ends k ≢ second_end ends k → length (line_neighbors ends m k) + 2 ≡ degree ends m (first_end ends k) + degree ends m (second_end ends k)
  line_neighbor_count n = go (end_cases ends k)
    where
      go : EndCases ends k → length (line_neighbors ends m k) + 2 ≡ degree ends m (first_end ends k) + degree ends m (second_end ends k)
      go (loop t e) = absurd (n e)
      go (apart t l low high two) =
          let b = higher_end ends k in
          let a = lower_end ends k in
          omega (
            arith,
            ap length (apart_neighbors ends m k t),
            length-append (later_at ends m k b ++ later_at ends m k a) (earlier_at ends m k b ++ earlier_at ends m k a),
            length-append (later_at ends m k b) (later_at ends m k a),
            length-append (earlier_at ends m k b) (earlier_at ends m k a),
            length_at b high,
            length_at a low,
            ends_sum (degree ends m) ends k,
          )

  pub line_neighbor_count_loop : first_end ends k ≡ second_end ends k → length (line_neighbors ends m k) + 1 ≡ degree ends m (first_end ends k)
  unfolding is_loop
  line_neighbor_count_loop e =
      let a = first_end ends k in
      omega (arith, ap length (loop_neighbors ends m k (eq-eqb _ _ e)), length-append (later_at ends m k a) (earlier_at ends m k a), length_at a (inl refl))

  -- An edge is a neighbour of k once for each end of k that it has too.
  pub line_neighbor_times : (j : ℕ) → j ≢ k → first_end ends k ≢ second_end ends k
      → count j (line_neighbors ends m k) ≡ count j (edges_at ends m (first_end ends k)) + count j (edges_at ends m (second_end ends k))
  line_neighbor_times j o n = go (end_cases ends k)
    where
      go : EndCases ends k → count j (line_neighbors ends m k) ≡ count j (edges_at ends m (first_end ends k)) + count j (edges_at ends m (second_end ends k))
      go (loop t e) = absurd (n e)
      go (apart t l low high two) =
          let b = higher_end ends k in
          let a = lower_end ends k in
          omega (
            arith,
            ap (count j) (apart_neighbors ends m k t),
            count_append j (later_at ends m k b ++ later_at ends m k a) (earlier_at ends m k b ++ earlier_at ends m k a),
            count_append j (later_at ends m k b) (later_at ends m k a),
            count_append j (earlier_at ends m k b) (earlier_at ends m k a),
            times_at j b o high,
            times_at j a o low,
            ends_sum (λ (v : ℕ). count j (edges_at ends m v)) ends k,
          )

  pub line_neighbor_times_loop : (j : ℕ) → j ≢ k → first_end ends k ≡ second_end ends k → count j (line_neighbors ends m k) ≡ count j (edges_at ends m (first_end ends k))
  unfolding is_loop
  line_neighbor_times_loop j o e =
      let a = first_end ends k in
      omega (arith, ap (count j) (loop_neighbors ends m k (eq-eqb _ _ e)), count_append j (later_at ends m k a) (earlier_at ends m k a), times_at j a o (inl refl))

-- Two ends with at most m edges each, less k itself.
pub line_neighbor_bound : (ends : List ℕ) (m k : ℕ) → k < m → length (line_neighbors ends m k) < 2 * m
line_neighbor_bound ends m k h =
    let a = degree_bound ends m (first_end ends k) in
    elim (dec_eq (first_end ends k) (second_end ends k)) [
      | inl e ↦ omega (arith, a, line_neighbor_count_loop ends m k h e)
      | inr n ↦ omega (arith, a, degree_bound ends m (second_end ends k), line_neighbor_count ends m k h n)
    ]
