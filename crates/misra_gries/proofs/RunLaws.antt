-- Laws of the run, and of its days.
use Prim.Native.Nat.{ℕ, zero, suc, ◌≤◌, ◌<◌, ◌+◌, ◌-◌, max}
use mathlib.Core.Path.{◌≡◌, refl, sym, ap, ap₂, ◌∙◌}
use mathlib.Core.Logic.{◌≢◌, inl, inr}
use mathlib.Core.List.{List, [], ◌∷◌}
use mathlib.Core.Bool.{cond}
use native.Mathlib.Omega.{arith}
use native.Mathlib.Decide.{dec_lt}
use lib.ListN.{length, take, get_or, replicate, length-replicate}
use lib.Seq.{length-take-le}
use lib.Dec.{eqb, ltb}
use borrow.Author.Tests.{ltb-true, ltb-false, ne_eqb}
use native.Mathlib.Numerals.{add-one}
use Rattle.lists.proofs.Tests.{by-test, dec_eq}
use Rattle.lists.specs.Member.{Mem}
use Rattle.lists.proofs.MemberLaws.{mem_get_or, place_of_lem}
use Rattle.graph.specs.Color.{days_of, no_color}
use Rattle.graph.proofs.ColorLaws.{color_take, color_read}
use Rattle.days.proofs.DaysLaws.{days_none, days_gapless}
use Rattle.graph.specs.Colored.{color_of}
use Rattle.vizing.specs.MisraGries.{greatest_color, step, held_after, held, Held, step_held}
use Rattle.graph.specs.Edges.{edge_count}
use Rattle.graph.specs.Stretch.{Table}
use Rattle.vizing.specs.Demand3.{Admitted}
use Rattle.vizing.proofs.Theorem.{max_degree_bound, admitted_palette}
use Rattle.vizing.proofs.DefinitionLaws.{step_list, step_edges, step_greatest}
use Rattle.vizing.specs.Step.{Invariant}
use Rattle.vizing.proofs.StepLaws.{step_keeps}
use Rattle.vizing.proofs.Tally.{greatest_none, greatest_uncolored, greatest_color_lem, greatest_step, tally_same, Gapless, run_gapless}
use Rattle.vizing.specs.MisraGries as definition
use Rattle.vizing.specs.AddEdge.{stored_list, ProperlyStored}
use Rattle.vizing.proofs.AddEdgeLaws.{stored_kept, stored_uncolored, stored_taken}
use Rattle.repaint.specs.Repaint.{TableOf}
use Rattle.repaint.proofs.RepaintLaws.{get_or_same}
use Rattle.misra_gries.specs.declared.tally.Tally.{Tally}
use Rattle.misra_gries.specs.Step.{InRange, top_color, Stepped, tally_of, tally_days, noted_of, held_of, steps_from, stored_held, Running}

-- ---- Days read off the tally: the greatest colour plus one, or 0 where no edge is coloured

-- The places that a list of colours has from m on are uncoloured.
abbrev Blank : List ℕ → ℕ → Type 0
Blank l m = (j : ℕ) → m ≤ j → color_of l j ≡ no_color

greatest_blank : (l : List ℕ) → Blank l 0 → greatest_color l ≡ 0
unfolding greatest_color color_of
greatest_blank [] b = refl
greatest_blank (c ∷ cs) b = greatest_uncolored c cs (b 0 (omega arith)) ∙ greatest_blank cs (λ j h. b (suc j) (omega arith))

greatest_cons : (c : ℕ) (cs ds : List ℕ) → greatest_color cs ≡ greatest_color ds → greatest_color (c ∷ cs) ≡ greatest_color (c ∷ ds)
unfolding greatest_color
greatest_cons c cs ds e = rw e

greatest_front : (l : List ℕ) (m : ℕ) → Blank l m → greatest_color l ≡ greatest_color (take m l)
unfolding color_of
greatest_front l zero b = greatest_blank l b ∙ sym greatest_none
greatest_front [] (suc m) b = refl
greatest_front (c ∷ cs) (suc m) b = greatest_cons c cs (take m cs) (greatest_front cs m (λ j h. b (suc j) (omega arith)))

-- Days of the first m colours, the others being uncoloured, from m and the greatest colour alone: there is no gap.
module _ (l : List ℕ) (m : ℕ) (room : m ≤ length l) (blank : Blank l m) (done : (j : ℕ) → j < m → color_of l j < no_color) (gapless : Gapless l) where
  place_member : (j : ℕ) → j < m → Mem (color_of l j) (take m l)
  place_member j h =
      let inside : j < length (take m l) = omega (arith, length-take-le m l room) in
      rw (color_read (take m l) j no_color inside ∙ color_take l m j h) at (mem_get_or (take m l) j no_color inside)

  member_place : (c : ℕ) → Mem c (take m l) → (j : ℕ) × (j < m) × (color_of l j ≡ c)
  member_place c p =
      let r = place_of_lem c (take m l) no_color p in
      let h : r.0 < m = omega (arith, r.1, length-take-le m l room) in
      (r.0, h, sym (color_take l m r.0 h) ∙ (sym (color_read (take m l) r.0 no_color r.1) ∙ r.2))

  -- A place with a colour is one of the first m.
  colored_place : (j : ℕ) → color_of l j ≢ no_color → j < m
  colored_place j n = elim (dec_lt j m) [ yes h ↦ h | no h ↦ absurd (n (blank j (omega arith))) ]

  greatest_member : 0 < m → Mem (greatest_color l) (take m l)
  greatest_member edge = elim (greatest_color_lem l).used [
    | inl z ↦ let e : color_of l 0 ≡ greatest_color l = omega (arith, (greatest_color_lem l).bound 0 (λ e. omega (arith, done 0 edge)), z) in rw e at (place_member 0 edge)
    | inr (i, e, n) ↦ rw e at (place_member i (colored_place i (rw e n)))
  ]

  all_members : 0 < m → (c : ℕ) → c < suc (greatest_color l) → Mem c (take m l)
  all_members edge c h =
      let r = member_place (greatest_color l) (greatest_member edge) in
      let small = done r.0 r.1 in
      elim (dec_eq c (greatest_color l)) [
        | inl e ↦ rw e (greatest_member edge)
        | inr n ↦
            let s = gapless r.0 c (λ e. omega arith) (omega (arith, r.2)) (λ e. omega (arith, r.2)) in
            rw s.1 at (place_member s.0 (colored_place s.0 (λ e. omega (arith, s.1, r.2))))
      ]

  days_read : days_of (take m l) ≡ cond (eqb m 0) 0 (suc (greatest_color l))
  days_read = elim (dec_lt 0 m) [
    | yes edge ↦
        let r = member_place (greatest_color l) (greatest_member edge) in
        rw (ne_eqb m 0 (λ e. omega arith)) (days_gapless (take m l) (suc (greatest_color l)) (omega (arith, done r.0 r.1, r.2))
        (λ c p n. let q = member_place c p in omega (arith, q.2, (greatest_color_lem l).bound q.0 (rw q.2 n))) (all_members edge))
    | no none ↦ let z : m ≡ 0 = omega arith in rw z (days_none [] (λ c p. absurd p))
  ]

-- ---- the run

greater : (a b : ℕ) → cond (ltb a b) b a ≡ max a b
greater a b = by-test (ltb a b) (λ u. simp u (omega (arith, ltb-true a b u))) (λ u. simp u (omega (arith, ltb-false a b u)))

held_same : (a b : Held) → a.list ≡ b.list → a.tally ≡ b.tally → a ≡ b
held_same a b p q = ap₂ {C = Held} (λ (x : List ℕ) (y : definition.Tally). record { list = x; tally = y }) p q

-- Marks that are all 0.
abbrev no_marks : List ℕ
no_marks = replicate 4096 0

fresh_marks : (n : ℕ) (ends : List ℕ) → Admitted n ends → (k : ℕ) → (edge_count ends ≤ length no_marks) × ((j : ℕ) → get_or no_marks j 0 < k + 1)
fresh_marks n ends a k = (rw (length-replicate {A = ℕ} 4096 0) a.edges, λ j. omega (arith, get_or_same 4096 j 0))

-- The start: the stored colours, be it none, are entered and tallied, and no edge is marked.
pub running_stored : (n : ℕ) (ends starts entries stored work table : List ℕ) (t : Tally) → Admitted n ends → Table ends n starts entries → length stored ≤ edge_count ends
    → ProperlyStored n ends stored → work ≡ stored_list stored → TableOf ends (edge_count ends) work table → (t.edges ≡ length stored) × (t.greatest ≡ greatest_color stored)
    → Running n ends starts entries work table (replicate 4096 0) t (length stored)
running_stored n ends starts entries stored work table t a rows few P w L counted = record {
  admitted = a;
  rows = rows;
  bound = few;
  kept = rw w (stored_kept n ends stored a few P);
  tabled = L;
  size = (fresh_marks n ends a (length stored)).0;
  unmarked = (fresh_marks n ends a (length stored)).1;
  edges = counted.0;
  greatest = counted.1 ∙ sym (ap greatest_color w ∙ (greatest_front (stored_list stored) (length stored) (stored_uncolored stored) ∙ ap greatest_color (stored_taken stored)));
}

module _ (n : ℕ) (ends starts entries work table marks : List ℕ) (t : Tally) (k : ℕ) (running : Running n ends starts entries work table marks t k) where
  pub running_room : edge_count ends ≤ length work
  running_room = omega (arith, running.kept.size, running.admitted.edges)

  module _ (t' : Tally) (work' table' marks' : List ℕ) (h : k < edge_count ends) (color : ℕ) (s : Stepped n ends starts entries work table marks k color work' table' marks') (noted : t' ≡ noted_of t color) where
    -- The tally of the step is the definition's.
    raised : t'.greatest ≡ greatest_color work'
    unfolding top_color
    raised =
        let a = running.admitted in
        let m = edge_count ends in
        let g = greatest_step ends m n (InRange n ends) a.simple a.inside a.edges (admitted_palette n ends a) work k h running.kept in
        ap (λ (x : Tally). x.greatest) noted ∙ (greater t.greatest color ∙ (ap (λ (i : ℕ). max i color) running.greatest ∙ (ap (max (greatest_color work)) s.top ∙ (sym g ∙ sym (ap greatest_color s.list)))))

    counted : t'.edges ≡ t.edges + 1
    counted = ap (λ (x : Tally). x.edges) noted

    pub running_more : Running n ends starts entries work' table' marks' t' (k + 1)
    running_more =
        let a = running.admitted in
        let m = edge_count ends in
        record {
          admitted = a;
          rows = running.rows;
          bound = omega arith;
          kept = rw (add-one k, s.list) (step_keeps ends m n (InRange n ends) a.simple a.inside a.edges (admitted_palette n ends a) work k h running.kept);
          tabled = s.tabled;
          size = omega (arith, s.size, running.size);
          unmarked = λ j. omega (arith, s.marked j);
          edges = omega (arith, counted, running.edges);
          greatest = raised;
        }

    -- What is held is the definition's, so the steps from here on hold what those from the start do.
    pub running_next : (held : Held) → steps_from ends (edge_count ends) n (held_of work t) k (edge_count ends - k) ≡ held → steps_from ends (edge_count ends) n (held_of work' t') (k + 1) (edge_count ends - (k + 1)) ≡ held
    unfolding steps_from
    running_next held e =
        let m = edge_count ends in
        let count : m - k ≡ suc (m - suc k) = omega arith in
        let now = held_of work t in
        let list : (step_held ends m n now k).list ≡ work' = step_list ends m n now k ∙ sym s.list in
        let tally = tally_same (step_held ends m n now k).tally (tally_of t') (step_edges ends m n now k ∙ omega (arith, counted)) (step_greatest ends m n now k ∙ (ap greatest_color (sym s.list) ∙ sym raised)) in
        rw (add-one k) (ap (λ (x : Held). steps_from ends m n x (suc k) (m - suc k)) (sym (held_same (step_held ends m n now k) (held_of work' t') list tally)) ∙ (rw count at e))

  -- All edges are done: the steps that are left hold what is here, and `days` comes from the tally.
  pub running_end : (held : Held) → steps_from ends (edge_count ends) n (held_of work t) k (edge_count ends - k) ≡ held → edge_count ends ≤ k → held_of work t ≡ held
  unfolding steps_from
  running_end held e h = let z : edge_count ends - k ≡ zero = omega arith in rw z at e

  running_days : edge_count ends ≤ k → Gapless work → tally_days t ≡ days_of (take (edge_count ends) work)
  running_days h g =
      let m = edge_count ends in
      let e : k ≡ m = omega (arith, running.bound) in
      let i : Invariant ends m (InRange n ends) m work = rw e at running.kept in
      rw (running.edges, e, running.greatest, add-one) (sym (days_read work m running_room i.rest (λ j b. omega (arith, i.done j b, max_degree_bound ends m n, running.admitted.edges)) g))

pub rest_colors : (m : ℕ) (work : List ℕ) (t : Tally) (held : Held) → held_of work t ≡ held → (colors : List ℕ) → colors ≡ take m work → colors ≡ take m held.list
rest_colors m work t held e colors c = c ∙ ap (λ (x : Held). take m x.list) e

-- ---- what the steps hold

held_stored : (stored work : List ℕ) (t : Tally) → work ≡ stored_list stored → (t.edges ≡ length stored) × (t.greatest ≡ greatest_color stored) → held_of work t ≡ stored_held stored
held_stored stored work t w c = held_same (held_of work t) (stored_held stored) w (tally_same (tally_of t) (stored_held stored).tally c.0 c.1)

-- What the run holds is what the steps from the stored colours do.
pub rest_held : (ends : List ℕ) (m n : ℕ) (stored work work' : List ℕ) (t t' : Tally) (k count : ℕ) → held_of work' t' ≡ steps_from ends m n (held_of work t) k count
    → work ≡ stored_list stored → (t.edges ≡ length stored) × (t.greatest ≡ greatest_color stored) → held_of work' t' ≡ steps_from ends m n (stored_held stored) k count
rest_held ends m n stored work work' t t' k count e w c = e ∙ ap (λ (h : Held). steps_from ends m n h k count) (held_stored stored work t w c)

module _ (ends : List ℕ) (m n : ℕ) where
  -- From what the definition's run holds after k edges, what it holds after `count` more.
  steps_held : (count k : ℕ) → steps_from ends m n (held_after ends m n k) k count ≡ held_after ends m n (k + count)
  unfolding steps_from held_after
  steps_held zero k = let e : k ≡ k + zero = omega arith in ap (held_after ends m n) e
  steps_held (suc count) k = let e : suc k + count ≡ k + suc count = omega arith in steps_held count (suc k) ∙ ap (held_after ends m n) e

-- From no stored colours: the whole run.
whole_held : (n : ℕ) (ends : List ℕ) → let m = edge_count ends in steps_from ends m n (stored_held []) 0 (m - 0) ≡ held_after ends m n m
unfolding held_after stored_list
whole_held n ends =
    let m = edge_count ends in
    let c : m - 0 ≡ m = omega arith in
    let z : 0 + m ≡ m = omega arith in
    rw (c, greatest_none) (steps_held ends m n m 0 ∙ ap (held_after ends m n) z)

pub whole_run : (n : ℕ) (ends : List ℕ) → let m = edge_count ends in take m (steps_from ends m n (stored_held []) 0 (m - 0)).list ≡ take m (held n ends m)
unfolding held
whole_run n ends = ap (λ (x : Held). take (edge_count ends) x.list) (whole_held n ends)

-- Days after the run: from the tally, as it leaves no gap where nothing was stored, or counted.
pub rest_days : (n : ℕ) (ends starts entries stored work table marks : List ℕ) (t : Tally) → let m = edge_count ends in let rest = steps_from ends m n (stored_held stored) (length stored) (m - length stored) in
    Running n ends starts entries work table marks t m → held_of work t ≡ rest → (colors : List ℕ) → colors ≡ take m rest.list
    → (days : ℕ) → days ≡ cond (eqb (length stored) 0) (tally_days t) (days_of colors) → days ≡ days_of (take m rest.list)
rest_days n ends starts entries [] work table marks t running e colors c days d =
    let m = edge_count ends in
    let a = running.admitted in
    let whole : work ≡ (held_after ends m n m).list = ap (λ (x : Held). x.list) (e ∙ whole_held n ends) in
    let gapless : Gapless work = rw whole (run_gapless ends m n (InRange n ends) a.simple a.inside a.edges (admitted_palette n ends a) m (omega arith)) in
    d ∙ (running_days n ends starts entries work table marks t m running (omega arith) gapless ∙ ap (λ (x : Held). days_of (take m x.list)) e)
rest_days n ends starts entries (x ∷ stored) work table marks t running e colors c days d = (rw (ne_eqb (suc (length stored)) 0 (λ z. omega arith)) at d) ∙ ap days_of c

-- From the colours of all edges but the last: its step, or none.
pub last_step : (n : ℕ) (ends : List ℕ) (k : ℕ) → k ≡ edge_count ends - 1 → (h : Held)
    → let m = edge_count ends in take m (steps_from ends m n h k (m - k)).list ≡ take m (step ends m n h.list (m - 1))
unfolding steps_from
last_step n ends k e h = elim (dec_eq (edge_count ends) 0) [
  | inl z ↦ rw z
  | inr some-edge ↦ let count : edge_count ends - (edge_count ends - 1) ≡ suc zero = omega arith in rw (e, count) (ap (take (edge_count ends)) (step_list ends (edge_count ends) n h (edge_count ends - 1)))
]
