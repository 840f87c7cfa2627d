-- Laws of the call, and that its clause leaves one answer.
use Prim.Native.Nat.{ℕ, ◌≤◌, ◌<◌}
use mathlib.Core.Path.{◌≡◌, refl, sym, ap, ◌∙◌}
use mathlib.Core.List.{List, [], ◌∷◌}
use mathlib.Core.Logic.{◌⊎◌, inl, inr, ◌≢◌}
use mathlib.Core.Bool.{Bool, true, false, not, xor}
use mathlib.Core.Option.{Option, none, some}
use native.Mathlib.Omega.{arith}
use lib.ListN.{length, get_or}
use lib.Dec.{eqb, leb, ltb}
use borrow.Author.Tests.{eq-eqb, ne_eqb, leb-true, eqb-true, eqb-false, ltb-true, ltb-false}
use Rattle.lists.proofs.Tests.{by-test, dec_eq}
use Rattle.lists.specs.Member.{Mem}
use Rattle.lists.proofs.MemberLaws.{mem_get_or, place_of_lem}
use Rattle.days.proofs.DaysLaws.{days_gapless, days_once, days_none}
use Rattle.graph.specs.Report.{Report, accepted, refused, Accepted}
use Rattle.graph.specs.Check.{◌gives◌, first_refusal, answered, written, graph_checks, length_check, check_graph, numbers_pass, Passed}
use Rattle.graph.proofs.CheckLaws.{refusal_passes, passes, passed_inside, sized_passed, passed_sized, refused_first, passed_first, first_refuses, first_passes, all_passed, answered_refused, answered_accepted, written_refused, written_accepted}
use Rattle.graph.specs.Edges.{edge_count, first_end, second_end}
use Rattle.graph.specs.Color.{colored, days_of}
use Rattle.graph.proofs.CheckedLaws.{refused_by_graph}
use Rattle.two_color.specs.Walk.{OddClosedWalk, Walk, is_odd}
use Rattle.two_color.specs.Sides.{odd_cycle, odd_side, side_color, sides, lowest}
use Rattle.two_color.proofs.SideLaws.{odd_cycle_walk, walk_odd_cycle, side_color_bound, color_second, length_sides, sides_at, lowest_node_one, lowest_le, lowest_same, lowest_walk, proper_walk}
use Rattle.two_color.specs.Components.{NodesColored}
use Rattle.two_color.specs.TwoColor.{input_checks, two_color, sides_outcome, side_days, Bipartition, OneBipartition}

-- Laws of the call: one for each answer, and the clause of the bipartition.

-- ---- where the other checks pass

module _ (n : ℕ) (ends lent : List ℕ) where
  sides_refused : odd_cycle ends (edge_count ends) ≡ true → (refused 8 ≡ (sides_outcome n ends lent).report) × (lent ≡ (sides_outcome n ends lent).colors)
  unfolding sides_outcome colored
  sides_refused e = let f = first_refuses (odd_cycle ends (edge_count ends)) 8 [] e in (answered_refused _ 8 _ f, written_refused _ 8 _ _ f)

  pub report_refused : (r : Bool) (s : List ℕ) → NodesColored ends (edge_count ends) n r s → r ≡ false → refused 8 ≡ (sides_outcome n ends lent).report
  report_refused r s c p = (sides_refused (c.odd p)).0

  pub colors_refused : (r : Bool) (s : List ℕ) → NodesColored ends (edge_count ends) n r s → r ≡ false → lent ≡ (sides_outcome n ends lent).colors
  colors_refused r s c p = (sides_refused (c.odd p)).1

  pub sides_accepted : (d : ℕ) (s colors : List ℕ) → odd_cycle ends (edge_count ends) ≡ false → s ≡ sides ends (edge_count ends) n → d ≡ days_of (sides ends (edge_count ends) n) → colors ≡ s → (accepted d ≡ (sides_outcome n ends lent).report) × (colors ≡ (sides_outcome n ends lent).colors)
  unfolding sides_outcome colored
  sides_accepted d s colors e p q r =
      let f = first_passes (odd_cycle ends (edge_count ends)) 8 [] e ∙ all_passed in
      (ap accepted q ∙ answered_accepted _ _ f, (r ∙ p) ∙ written_accepted _ _ _ f)

-- ---- the days, without counting

module _ (n : ℕ) (ends : List ℕ) (p : Passed n ends) (fine : odd_cycle ends (edge_count ends) ≡ false) where
  abbrev m : ℕ
  m = edge_count ends

  side_member : (v : ℕ) → v < n → Mem (side_color ends m v) (sides ends m n)
  side_member v h = rw (sides_at ends m n v h) at (mem_get_or (sides ends m n) v 0 (rw (length_sides ends m n) h))

  member_side : (c : ℕ) → Mem c (sides ends m n) → (v : ℕ) × (v < n) × (side_color ends m v ≡ c)
  member_side c q =
      let r = place_of_lem c (sides ends m n) 0 q in
      let h : r.0 < n = omega (arith, r.1, length_sides ends m n) in
      (r.0, h, sym (sides_at ends m n r.0 h) ∙ r.2)

  -- The ends of the first edge have both colours.
  both_sides : 0 < m → (c : ℕ) → c < 2 → Mem c (sides ends m n)
  both_sides edge c h =
      let i = passed_inside n ends p 0 edge in
      let first = side_member (first_end ends 0) i.0 in
      let second = side_member (second_end ends 0) i.1 in
      let other = color_second ends m fine 0 edge in
      elim (dec_eq (side_color ends m (first_end ends 0)) c) [
        | inl e ↦ rw e at first
        | inr d ↦ let e : side_color ends m (second_end ends 0) ≡ c = omega (arith, other, side_color_bound ends m (first_end ends 0)) in rw e at second
      ]

  -- Without edges every node has 1.
  bare : ltb 0 m ≡ false → (v : ℕ) → side_color ends m v ≡ 1
  unfolding side_color odd_side
  bare t v = let z : m ≡ 0 = omega (arith, ltb-false 0 m t) in rw z

  pub sides_days : side_days n m ≡ days_of (sides ends m n)
  unfolding side_days
  sides_days = by-test (ltb 0 m)
      (λ t. simp t (sym (days_gapless (sides ends m n) 2 (omega arith) (λ c q o. let r = member_side c q in omega (arith, r.2, side_color_bound ends m r.0)) (both_sides (ltb-true 0 m t)))))
      (λ t. by-test (ltb 0 n)
      (λ u. simp (t, u) (sym (days_once (sides ends m n) (1 ∷ []) (λ q. q, tt)
      (λ c q. elim q [ inl e ↦ (rw (e, sym (bare t 0)) (side_member 0 (ltb-true 0 n u)), λ z. omega arith) | inr x ↦ absurd x ])
      (λ c q o. let r = member_side c q in inl (sym r.2 ∙ bare t r.0)))))
      (λ u. simp (t, u) (sym (days_none (sides ends m n) (λ c q. absurd (let r = member_side c q in omega (arith, r.1, ltb-false 0 n u)))))))

-- What copying out asks: as many places, and colours that fit a byte.
pub sides_fit : (n : ℕ) (ends s : List ℕ) (m : ℕ) → s ≡ sides ends m n → (length s ≡ n) × ((i : ℕ) → i < length s → get_or s i 0 ≤ 1)
sides_fit n ends s m e =
    let l : length s ≡ n = ap length e ∙ length_sides ends m n in
    (l, λ i h. let b : i < n = omega arith in omega (arith, ap (λ (x : List ℕ). get_or x i 0) e ∙ sides_at ends m n i b, side_color_bound ends m i))

-- ---- the whole call

-- The three kinds of answer.
data Answer (n : ℕ) (ends lent : List ℕ) : Type 0 where
  early : (k : ℕ) → k ≤ 5 → first_refusal (input_checks n ends lent) ≡ some k → (two_color n ends lent).report ≡ refused k → Answer n ends lent
  odd : first_refusal (input_checks n ends lent) ≡ none → odd_cycle ends (edge_count ends) ≡ true → (two_color n ends lent).report ≡ refused 8 → Answer n ends lent
  sided : first_refusal (input_checks n ends lent) ≡ none → odd_cycle ends (edge_count ends) ≡ false → (two_color n ends lent).report ≡ accepted (days_of (sides ends (edge_count ends) n))
      → (two_color n ends lent).colors ≡ sides ends (edge_count ends) n → Answer n ends lent

module _ (n : ℕ) (ends lent : List ℕ) where
  -- The checks before 8 refuse by 5 or less.
  input_refusal : (k : ℕ) → first_refusal (input_checks n ends lent) ≡ some k → k ≤ 5
  unfolding input_checks graph_checks numbers_pass
  input_refusal k e = leb-true k 5 (refusal_passes (λ (j : ℕ). leb j 5) (input_checks n ends lent) k refl e)

  -- Refused by a check before 8.
  before_eight : (k : ℕ) → first_refusal (input_checks n ends lent) ≡ some k → (refused k ≡ (two_color n ends lent).report) × (lent ≡ (two_color n ends lent).colors)
  unfolding two_color colored
  before_eight k e = let f = refused_first (input_checks n ends lent) _ k e in (answered_refused _ k _ f, written_refused _ k _ _ f)

  after_input : first_refusal (input_checks n ends lent) ≡ none → ((sides_outcome n ends lent).report ≡ (two_color n ends lent).report) × ((sides_outcome n ends lent).colors ≡ (two_color n ends lent).colors)
  unfolding two_color sides_outcome colored answered written
  after_input e =
      let f = passed_first (input_checks n ends lent) ((odd_cycle ends (edge_count ends) gives 8) ∷ []) e in
      (rw (f, answered), rw (f, written))

  -- ---- one law for each answer

  pub graph_no : (k : ℕ) → refused k ≡ check_graph n ends → (refused k ≡ (two_color n ends lent).report) × (lent ≡ (two_color n ends lent).colors)
  unfolding input_checks
  graph_no k e = before_eight k (refused_first (graph_checks n ends) (length_check (length lent) n ∷ []) k (refused_by_graph n ends k e))

  module _ (p : Passed n ends) where
    after_graph_lem : first_refusal (input_checks n ends lent) ≡ first_refusal (length_check (length lent) n ∷ [])
    unfolding input_checks
    after_graph_lem = passed_first (graph_checks n ends) (length_check (length lent) n ∷ []) (passes n ends p)

    pub length_no : (length lent ≡ n → ⊥) → (refused 5 ≡ (two_color n ends lent).report) × (lent ≡ (two_color n ends lent).colors)
    length_no h =
        let t : not (eqb (length lent) n) ≡ true = simp (ne_eqb (length lent) n h) in
        before_eight 5 (after_graph_lem ∙ first_refuses (not (eqb (length lent) n)) 5 [] t)

    pub checked_yes : (r : Report ℕ) (colors : List ℕ) → length lent ≡ n → r ≡ (sides_outcome n ends lent).report → colors ≡ (sides_outcome n ends lent).colors → (r ≡ (two_color n ends lent).report) × (colors ≡ (two_color n ends lent).colors)
    checked_yes r colors h a b =
        let t : not (eqb (length lent) n) ≡ false = simp (eq-eqb (length lent) n h) in
        let o = after_input (after_graph_lem ∙ (first_passes (not (eqb (length lent) n)) 5 [] t ∙ all_passed)) in
        (a ∙ o.0, b ∙ o.1)

  -- ---- the bipartition

  answer : Answer n ends lent
  answer = go (first_refusal (input_checks n ends lent)) refl
    where
      go : (o : Option ℕ) → first_refusal (input_checks n ends lent) ≡ o → Answer n ends lent
      go (some k) e = early k (input_refusal k e) e (sym (before_eight k e).0)
      go none e =
          let o = after_input e in
          by-test (odd_cycle ends (edge_count ends))
          (λ t. odd e t (sym ((sides_refused n ends lent t).0 ∙ o.0)))
          (λ t. let a = sides_accepted n ends lent _ (sides ends (edge_count ends) n) (sides ends (edge_count ends) n) t refl refl refl in sided e t (sym (a.0 ∙ o.0)) (sym (a.1 ∙ o.1)))

  input_passed : first_refusal (input_checks n ends lent) ≡ none → Passed n ends × (length lent ≡ n)
  unfolding input_checks
  input_passed e = sized_passed n ends (length lent) n e

  passed_input : Passed n ends → length lent ≡ n → first_refusal (input_checks n ends lent) ≡ none
  unfolding input_checks
  passed_input p l = passed_sized n ends (length lent) n p l

  module _ (r : Report ℕ) (colors : List ℕ) (a : r ≡ (two_color n ends lent).report) (b : colors ≡ (two_color n ends lent).colors) where
    says_no : Answer n ends lent → r ≡ refused 8 → Passed n ends × (length lent ≡ n) × OddClosedWalk ends (edge_count ends)
    says_no (early k h f p) e = let i : k ≡ 8 = cc in absurd (omega arith)
    says_no (odd f t p) e = let i = input_passed f in (i.0, i.1, odd_cycle_walk ends (edge_count ends) t)
    says_no (sided f t p q) e = let z : ◌≡◌ {A = ℕ} 0 1 = cc in absurd (omega arith)

    cannot_be : Answer n ends lent → first_refusal (input_checks n ends lent) ≡ none → OddClosedWalk ends (edge_count ends) → r ≡ refused 8
    cannot_be (early k h f p) e w = let z : ◌≡◌ {A = ℕ} 0 1 = cc in absurd (omega arith)
    cannot_be (odd f t p) e w = a ∙ p
    cannot_be (sided f t p q) e w = let u = walk_odd_cycle ends (edge_count ends) w in let z : ◌≡◌ {A = ℕ} 0 1 = cc in absurd (omega arith)

    answers_one : Answer n ends lent → first_refusal (input_checks n ends lent) ≡ none → (r ≡ refused 8) ⊎ Accepted r
    answers_one (early k h f p) e = let z : ◌≡◌ {A = ℕ} 0 1 = cc in absurd (omega arith)
    answers_one (odd f t p) e = inl (a ∙ p)
    answers_one (sided f t p q) e = inr (_, a ∙ p)

    -- Where the call accepts, it gives the sides.
    record Sided : Type 0 where
      passed : Passed n ends
      even : odd_cycle ends (edge_count ends) ≡ false
      at : (v : ℕ) → v < n → get_or colors v 0 ≡ side_color ends (edge_count ends) v

    accepts : Answer n ends lent → (days : ℕ) → r ≡ accepted days → Sided
    accepts (early k h f p) days e = let z : ◌≡◌ {A = ℕ} 0 1 = cc in absurd (omega arith)
    accepts (odd f t p) days e = let z : ◌≡◌ {A = ℕ} 0 1 = cc in absurd (omega arith)
    accepts (sided f t p q) days e = record { passed = (input_passed f).0; even = t; at = λ v h. ap (λ (l : List ℕ). get_or l v 0) (b ∙ q) ∙ sides_at ends (edge_count ends) n v h }

    pub bipartition : Bipartition n ends lent r colors
    bipartition = record {
      no = says_no answer;
      cannot = λ h l. cannot_be answer (passed_input h l);
      answers = λ h l. answers_one answer (passed_input h l);
      two = λ days e v h. omega (arith, (accepts answer days e).at v h, side_color_bound ends (edge_count ends) v);
      differ = λ days e k h q.
          let s = accepts answer days e in
          let i = passed_inside n ends s.passed k h in
          omega (arith, s.at (first_end ends k) i.0, s.at (second_end ends k) i.1, color_second ends (edge_count ends) s.even k h, side_color_bound ends (edge_count ends) (first_end ends k));
      lowest = λ days e v h own. (accepts answer days e).at v h ∙ lowest_node_one ends (edge_count ends) v own;
    }

-- ---- a bipartition with 1 at the lowest node of each component is the only one

other_one : (a b : ℕ) → a ≤ 1 → b ≤ 1 → a ≢ b → eqb a 1 ≡ not (eqb b 1)
other_one a b p q d = by-test (eqb b 1)
    (λ t. rw t (ne_eqb a 1 (λ e. d (e ∙ sym (eqb-true b 1 t)))))
    (λ t. rw t (eq-eqb a 1 (elim (dec_eq a 1) [ inl e ↦ e | inr e ↦ let z : ⊥ = d (omega (arith, e, eqb-false b 1 t)) in absurd z ])))

same_one : (a b : ℕ) → a ≤ 1 → b ≤ 1 → eqb a 1 ≡ eqb b 1 → a ≡ b
same_one a b p q e = by-test (eqb b 1)
    (λ t. eqb-true a 1 (e ∙ t) ∙ sym (eqb-true b 1 t))
    (λ t. let x = eqb-false a 1 (e ∙ t) in let y = eqb-false b 1 t in omega (arith, x, y))

-- No walk leads from the lowest node of a component to a lower one.
lowest_own : (ends : List ℕ) (m v u l : ℕ) → Walk ends m (lowest ends m v) u l → lowest ends m v ≤ u
lowest_own ends m v u l w = omega (arith, lowest_same (lowest_walk ends m v).1, lowest_same w, lowest_le ends m u)

module _ (n : ℕ) (ends lent : List ℕ) (report : Report ℕ) (colors : List ℕ) (passed : Passed n ends) (clause : Bipartition n ends lent report colors) (days : ℕ) (yes : report ≡ accepted days) where
  abbrev is_one : ℕ → Bool
  is_one v = eqb (get_or colors v 0) 1

  ones_differ : (j : ℕ) → j < edge_count ends → is_one (first_end ends j) ≡ not (is_one (second_end ends j))
  ones_differ j h =
      let inside = passed_inside n ends passed j h in
      other_one (get_or colors (first_end ends j) 0) (get_or colors (second_end ends j) 0) (clause.two days yes (first_end ends j) inside.0) (clause.two days yes (second_end ends j) inside.1) (clause.differ days yes j h)

  -- A node's colour follows from a walk from the lowest node of its component.
  by_walk : (v : ℕ) → v < n → is_one v ≡ xor (is_odd (lowest_walk ends (edge_count ends) v).0) true
  by_walk v h =
      let low = lowest ends (edge_count ends) v in
      let one : get_or colors low 0 ≡ 1 = clause.lowest days yes low (omega (arith, lowest_le ends (edge_count ends) v)) (lowest_own ends (edge_count ends) v) in
      proper_walk ends (edge_count ends) is_one ones_differ (lowest_walk ends (edge_count ends) v).1 ∙ ap (xor (is_odd (lowest_walk ends (edge_count ends) v).0)) (eq-eqb (get_or colors low 0) 1 one)

pub one_bipartition : OneBipartition
one_bipartition n ends lent report report' colors colors' passed size a b = elim (a.answers passed size) [
  | inl refuses ↦ inl (refuses, b.cannot passed size (a.no refuses).2)
  | inr accepts ↦ elim (b.answers passed size) [
    | inl refuses ↦ inl (a.cannot passed size (b.no refuses).2, refuses)
    | inr accepts' ↦ inr (
      accepts,
      accepts',
      λ v h. same_one (get_or colors v 0) (get_or colors' v 0) (a.two accepts.0 accepts.1 v h) (b.two accepts'.0 accepts'.1 v h)
          (by_walk n ends lent report colors passed a accepts.0 accepts.1 v h ∙ sym (by_walk n ends lent report' colors' passed b accepts'.0 accepts'.1 v h)),
    )
  ]
]
