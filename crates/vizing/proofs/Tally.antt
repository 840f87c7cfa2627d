-- The tally: edges coloured, and the greatest colour. And that the run leaves no gap below it.
use Prim.Native.Nat.{ℕ, zero, suc, ◌≤◌, ◌<◌, max}
use mathlib.Core.Path.{◌≡◌, refl, ap, ap₂, sym, ◌∙◌}
use mathlib.Core.List.{List, [], ◌∷◌}
use mathlib.Core.Logic.{◌⊎◌, inl, inr, ◌≢◌}
use mathlib.Core.Bool.{Bool, true, false, not, ◌&&◌, cond, true≢false}
use native.Mathlib.Omega.{arith}
use native.Mathlib.Decide.{dec_lt}
use lib.ListN.{length}
use lib.Dec.{eqb, ltb}
use borrow.Author.Tests.{eqb-false, eq-eqb, ne_eqb, ltb-true, ltb-false, not-true}
use Rattle.vizing.specs.MisraGries.{Tally, greatest_color, find, step, held_after}
-- No name of it is used: the rows are to be checked before the laws, so that a wrong definition is refused for what it gives.
use Rattle.vizing.specs.Answers
use Rattle.lists.proofs.Tests.{by-test, and_true, true_and}
use Rattle.lists.specs.Member.{Mem, Nodup}
use Rattle.lists.proofs.MemberLaws.{dec_mem}
use Rattle.graph.specs.Edges.{first_end, second_end, edges_at}
use Rattle.graph.specs.Color.{no_color}
use Rattle.graph.specs.Colored.{color_of}
use Rattle.graph.proofs.ColorLaws.{smaller_stands, color_replicate}
use Rattle.vizing.proofs.StepForm.{StepParts, step_parts, last_far_end, find_form}
use Rattle.vizing.proofs.DefinitionLaws.{step_list}
use Rattle.vizing.specs.Simple.{Simple}
use Rattle.vizing.proofs.AlternatingPath.{swap_left, swap_right, path_edge, Exchanged, starts_with_d, at_start, exchange_uncolored}
use Rattle.vizing.proofs.Fan.{last_edge, Rotated, rotated_other, rotated_last, rotated_from, rotated_to}
use Rattle.vizing.proofs.StepLaws.{Palette, FoundLaws, found_laws, run_keeps}
use Rattle.vizing.specs.Step.{Invariant}

-- A tally is its two numbers.
pub tally_same : (a b : Tally) → a.edges ≡ b.edges → a.greatest ≡ b.greatest → a ≡ b
tally_same a b p q = ap₂ {C = Tally} (λ (x y : ℕ). record { edges = x; greatest = y }) p q

-- The greatest colour in use: a step raises it to the one colour that can be new, and never lowers it.

-- ---- the greatest colour of a list

pub greatest_none : greatest_color [] ≡ 0
unfolding greatest_color
greatest_none = refl

-- An uncoloured place does not count, a coloured one does.
pub greatest_uncolored : (c : ℕ) (cs : List ℕ) → c ≡ no_color → greatest_color (c ∷ cs) ≡ greatest_color cs
unfolding greatest_color
greatest_uncolored c cs e = by-test (ltb (greatest_color cs) c) (λ t. simp (t, eq-eqb c no_color e)) (λ t. simp t)

pub greatest_colored : (c : ℕ) (cs : List ℕ) → c ≢ no_color → greatest_color (c ∷ cs) ≡ cond (ltb (greatest_color cs) c) c (greatest_color cs)
unfolding greatest_color
greatest_colored c cs n = by-test (ltb (greatest_color cs) c) (λ t. simp (t, ne_eqb c no_color n)) (λ t. simp t)

-- No colour of the list is greater than x, and x is one of them or 0.
pub record Greatest (l : List ℕ) (x : ℕ) : Type 0 where
  pub bound : (i : ℕ) → color_of l i ≢ no_color → color_of l i ≤ x
  pub used : (x ≡ 0) ⊎ ((i : ℕ) × (color_of l i ≡ x) × (x ≢ no_color))

used_bound : (l : List ℕ) (x y : ℕ) → Greatest l x → Greatest l y → x ≤ y
used_bound l x y p q = elim p.used [ inl z ↦ omega arith | inr (i, z, n) ↦ rw z at (q.bound i (rw z n)) ]

pub greatest_color_lem : (l : List ℕ) → Greatest l (greatest_color l)
unfolding greatest_color color_of
greatest_color_lem [] = record { bound = λ i n. absurd (n refl); used = inl refl }
greatest_color_lem (c ∷ cs) = go (greatest_color_lem cs) (ltb (greatest_color cs) c && not (eqb c no_color)) refl
  where
    go : Greatest cs (greatest_color cs) → (b : Bool) → ltb (greatest_color cs) c && not (eqb c no_color) ≡ b → Greatest (c ∷ cs) (cond b c (greatest_color cs))
    go rec true t = record { bound = below; used = inr (0, refl, eqb-false c no_color (not-true (eqb c no_color) r.1)) }
      where
        r : (ltb (greatest_color cs) c ≡ true) × (not (eqb c no_color) ≡ true)
        r = and_true (ltb (greatest_color cs) c) (not (eqb c no_color)) t

        below : (i : ℕ) → color_of (c ∷ cs) i ≢ no_color → color_of (c ∷ cs) i ≤ c
        below zero n = omega arith
        below (suc i) n = omega (arith, rec.bound i n, ltb-true (greatest_color cs) c r.0)
    go rec false t = record { bound = below; used = elim rec.used [ inl z ↦ inl z | inr (i, z, n) ↦ inr (suc i, z, n) ] }
      where
        below : (i : ℕ) → color_of (c ∷ cs) i ≢ no_color → color_of (c ∷ cs) i ≤ greatest_color cs
        below zero n =
            by-test (ltb (greatest_color cs) c)
            (λ s. absurd (true≢false (sym (true_and (ltb (greatest_color cs) c) (not (eqb c no_color)) s (ap not (ne_eqb c no_color n))) ∙ t)))
            (ltb-false (greatest_color cs) c)
        below (suc i) n = rec.bound i n

-- Where the colours of l are still in use and x is the only one that can be new, the greatest is that of l or x.
greatest_raised : (l h : List ℕ) (x : ℕ) → ((i : ℕ) → color_of l i ≢ no_color → (j : ℕ) × (color_of h j ≡ color_of l i))
    → (j : ℕ) → color_of h j ≡ x → x ≢ no_color → ((i : ℕ) → color_of h i ≢ no_color → (color_of h i ≤ greatest_color l) ⊎ (color_of h i ≡ x))
    → greatest_color h ≡ max (greatest_color l) x
greatest_raised l h x still j e color-x from =
    let y = max (greatest_color l) x in
    omega (arith, used_bound h (greatest_color h) y (greatest_color_lem h) raised, used_bound h y (greatest_color h) raised (greatest_color_lem h))
  where
    in_use : (y : ℕ) → (y ≡ greatest_color l) ⊎ (y ≡ x) → (y ≡ 0) ⊎ ((i : ℕ) × (color_of h i ≡ y) × (y ≢ no_color))
    in_use y (inl p) = elim (greatest_color_lem l).used [
      | inl z ↦ inl (p ∙ z)
      | inr (i, z, n) ↦ let r = still i (rw z n) in inr (r.0, r.1 ∙ z ∙ sym p, rw p n)
    ]
    in_use y (inr p) = inr (j, e ∙ sym p, rw p color-x)

    raised : Greatest h (max (greatest_color l) x)
    raised = record {
      bound = λ i n. elim (from i n) [ inl b ↦ omega arith | inr z ↦ omega arith ];
      used = in_use (max (greatest_color l) x) (elim (dec_lt (greatest_color l) x) [ yes b ↦ inr (omega arith) | no b ↦ inl (omega arith) ]);
    }

-- Each colour that is smaller than one of the list's is in use too.
abbrev pub Gapless : List ℕ → Type 0
Gapless l = (i b : ℕ) → color_of l i ≢ no_color → b < color_of l i → b ≢ no_color → (j : ℕ) × (color_of l j ≡ b)

-- ---- the colours in use after the exchange and after the rotation

module _ {At : ℕ → ℕ → Type 0} {far : ℕ → ℕ → ℕ} {f g : ℕ → ℕ} {u c d : ℕ} {ks : List ℕ} (E : Exchanged At far f g u c d ks) where
  -- Where the path has an edge, its first edge had d and has c.
  first_of_path : (i : ℕ) → Mem i ks → (e : ℕ) × (f e ≡ d) × (g e ≡ c)
  first_of_path i p =
      let w = (path_edge E.path i p).0 in
      let r = starts_with_d E w.0 (i, p, w.1) in
      (r.0, r.2, at_start E r.0 r.1 ∙ rw r.2 (swap_right c d))

  -- Every colour but d stays in use.
  exchange_to : (i : ℕ) → ((j : ℕ) × (g j ≡ f i)) ⊎ (f i ≡ d)
  exchange_to i = elim (dec_mem i ks) [
    | inl p ↦ elim (path_edge E.path i p).1 [ inl z ↦ inr z | inr z ↦ let r = first_of_path i p in inl (r.0, r.2 ∙ sym z) ]
    | inr n ↦ inl (i, E.off_path i n)
  ]

  -- No colour but c is new, and c only if there is a path.
  exchange_from : (i : ℕ) → ((j : ℕ) × (g i ≡ f j)) ⊎ ((g i ≡ c) × ((e : ℕ) × Mem e ks))
  exchange_from i = elim (dec_mem i ks) [
    | inl p ↦ elim (path_edge E.path i p).1 [
      | inl z ↦ inr (E.on_path i p ∙ rw z (swap_right c d), (i, p))
      | inr z ↦ let r = first_of_path i p in inl (r.0, E.on_path i p ∙ rw z (swap_left c d) ∙ sym r.1)
    ]
    | inr n ↦ inl (i, E.off_path i n)
  ]

-- Every colour stays in use.
rotation_to : {h g : ℕ → ℕ} {d k : ℕ} {ks : List ℕ} → Rotated h d g k ks → Nodup (k ∷ ks) → g k ≡ no_color → (i : ℕ) → g i ≢ no_color → (j : ℕ) × (h j ≡ g i)
rotation_to {g = g} {k = k} {ks = ks} R nodup bare i colored = elim (dec_mem i ks) [
  | inl p ↦ rotated_to R nodup i p
  | inr n ↦ (i, rotated_other R i (λ p. elim p [ inl z ↦ colored (ap g z ∙ bare) | inr q ↦ n q ]))
]

-- No colour but d is new.
rotation_from : {h g : ℕ → ℕ} {d k : ℕ} {ks : List ℕ} → Rotated h d g k ks → Nodup (k ∷ ks) → (i : ℕ) → ((j : ℕ) × (h i ≡ g j)) ⊎ (h i ≡ d)
rotation_from {k = k} {ks = ks} R nodup i = elim (dec_mem i (k ∷ ks)) [
  | inl p ↦ elim (rotated_from R nodup i p) [ inl z ↦ inr z | inr (j, q, z) ↦ inl (j, z) ]
  | inr n ↦ inl (i, rotated_other R i n)
]

-- ---- the step

module _ (ends : List ℕ) (m n : ℕ) (Ok : ℕ → Type 0) (S : Simple ends m) (inside : (k : ℕ) → k < m → (first_end ends k < n) × (second_end ends k < n)) (small : m ≤ 4096)
    (P : Palette ends m n Ok) (l : List ℕ) (k : ℕ) (h : k < m) (I : Invariant ends m Ok k l) where
  abbrev found : StepParts
  found = step_parts ends m n l k

  abbrev after : List ℕ
  after = step ends m n l k

  T : FoundLaws ends m n Ok l k found
  T = found_laws ends m n Ok S inside small P l k h I

  -- A colour in use after the exchange, and one in use before it, is in use after the step.
  exchanged_still : (i : ℕ) → color_of found.exchanged i ≢ no_color → (j : ℕ) × (color_of after j ≡ color_of found.exchanged i)
  exchanged_still = rotation_to T.rotation T.places_nodup (exchange_uncolored T.exchange k (I.rest k (omega arith)))

  still : (i : ℕ) → color_of l i ≢ no_color → (j : ℕ) × (color_of after j ≡ color_of l i)
  still i colored = elim (exchange_to T.exchange i) [
    | inl (j, z) ↦ let r = exchanged_still j (λ y. colored (sym z ∙ y)) in (r.0, r.1 ∙ z)
    | inr z ↦ (last_edge k found.places, rotated_last T.rotation ∙ sym z)
  ]

  -- A colour afterwards is an old one, d, or c where there is a path.
  origin : (i : ℕ) → ((e : ℕ) × (color_of after i ≡ color_of l e)) ⊎ ((color_of after i ≡ found.d) ⊎ ((color_of after i ≡ found.c) × ((e : ℕ) × Mem e found.path)))
  origin i = elim (rotation_from T.rotation T.places_nodup i) [
    | inl (j, z) ↦ elim (exchange_from T.exchange j) [ inl (e, y) ↦ inl (e, z ∙ y) | inr (y, e) ↦ inr (inr (z ∙ y, e)) ]
    | inr z ↦ inr (inl z)
  ]

  old_bound : (i e : ℕ) → color_of after i ≢ no_color → color_of after i ≡ color_of l e → color_of after i ≤ greatest_color l
  old_bound i e colored z = rw z ((greatest_color_lem l).bound e (λ x. colored (z ∙ x)))

  raised : (p : List ℕ) → found.path ≡ p → greatest_color after ≡ max (greatest_color l) (cond (eqb (length p) 0) found.d found.c)
  raised [] e = greatest_raised l after found.d still (last_edge k found.places) (rotated_last T.rotation) T.exchange.color_d
      (λ i colored. elim (origin i) [ inl (j, z) ↦ inl (old_bound i j colored z) | inr r ↦ elim r [ inl z ↦ inr z | inr (z, x) ↦ absurd (rw e at x.1) ] ])
  raised (x ∷ p) e =
      let r = first_of_path T.exchange x (rw e (inl refl)) in
      let s = exchanged_still r.0 (rw r.2 T.exchange.color_c) in
      rw (ne_eqb (suc (length p)) 0 (λ z. omega arith))
      (greatest_raised l after found.c still s.0 (s.1 ∙ r.2) T.exchange.color_c
      (λ i colored. elim (origin i) [
        | inl (j, y) ↦ inl (old_bound i j colored y)
        | inr q ↦ elim q [ inl z ↦ inl (rw (z ∙ sym r.1) ((greatest_color_lem l).bound r.0 (rw r.1 T.exchange.color_d))) | inr (z, y) ↦ inr z ]
      ]))

  -- Either the path is empty and only d can be new, or its first edge had d and only c can be new.
  pub greatest_step : greatest_color (step ends m n l k) ≡ max (greatest_color l) (cond (eqb (length (find ends m n l k).path) 0) (find ends m n l k).d (find ends m n l k).c)
  greatest_step = let s = find_form ends m n l k in rw (s.path, s.c, s.d) (raised found.path refl)

  -- What the step adds is the smallest free colour at a node, so that each smaller one stands there; and no colour is lost.
  pub step_gapless : Gapless l → Gapless (step ends m n l k)
  unfolding step_parts
  step_gapless gapless i b colored less color =
      let r = before in
      let s = still r.0 (rw r.1 color) in
      (s.0, s.1 ∙ r.1)
    where
      before : (j : ℕ) × (color_of l j ≡ b)
      before = elim (origin i) [
        | inl (e, z) ↦ gapless e b (λ x. colored (z ∙ x)) (rw z at less) color
        | inr q ↦ elim q [
          | inl z ↦ let r = smaller_stands l (edges_at ends m (last_far_end ends (first_end ends k) (second_end ends k) found.fan)) b (rw z at less) in (r.0, r.2)
          | inr (z, x) ↦ let r = smaller_stands l (edges_at ends m (first_end ends k)) b (rw z at less) in (r.0, r.2)
        ]
      ]

-- The run begins without a colour.
pub run_gapless : (ends : List ℕ) (m n : ℕ) (Ok : ℕ → Type 0) → Simple ends m → ((k : ℕ) → k < m → (first_end ends k < n) × (second_end ends k < n)) → m ≤ 4096 → Palette ends m n Ok
    → (k : ℕ) → k ≤ m → Gapless (held_after ends m n k).list
unfolding held_after
run_gapless ends m n Ok S inside small P zero h = λ i b colored. absurd (colored (color_replicate 4096 i))
run_gapless ends m n Ok S inside small P (suc k) h =
    rw (step_list ends m n (held_after ends m n k) k)
    (step_gapless ends m n Ok S inside small P (held_after ends m n k).list k h (run_keeps ends m n Ok S inside small P k (omega arith)) (run_gapless ends m n Ok S inside small P k (omega arith)))
