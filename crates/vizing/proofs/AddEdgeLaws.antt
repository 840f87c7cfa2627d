-- One edge more: what its checks admit, and what the step from stored colours gives.
use Prim.Native.Nat.{ℕ, suc, ◌-◌, ◌+◌, ◌*◌, ◌≤◌, ◌<◌}
use mathlib.Core.Path.{◌≡◌, refl, sym, ap, subst, ◌∙◌}
use mathlib.Core.Logic.{inl, inr, ◌≢◌}
use mathlib.Core.List.{List, [], ◌∷◌, ◌++◌, append_assoc}
use mathlib.Core.Option.{Option, none, some}
use mathlib.Core.Bool.{true, false, not, ◌&&◌, true≢false}
use native.Mathlib.Omega.{arith}
use native.Mathlib.Decide.{dec_lt}
use lib.ListN.{length, get_or, take, replicate, length-append, length-replicate, get_or-append}
use lib.Seq.{get_or-append-add, length-take-le, take-take, ext_get_or, take-append-le, take-length}
use lib.Dec.{eqb, ltb}
use borrow.Author.Tests.{eqb-true, eq-eqb, ltb-true, ltb-false, not-false}
use Rattle.lists.proofs.Tests.{by-test, dec_eq, and_true, true_and, or_true, true_or}
use Rattle.lists.specs.Search.{any, all_below}
use Rattle.lists.proofs.SearchLaws.{any_false, any_true}
use Rattle.graph.specs.Edges.{edge_count, first_end, second_end, is_loop, second_at, first_edges, second_edges, edges_at, degree, At}
use Rattle.graph.specs.Report.{accepted, Accepted}
use Rattle.graph.specs.Check.{Check, ◌gives◌, first_refusal, answered, written, graph_checks, length_check}
use Rattle.graph.specs.Color.{Outcome, days_of, colored, no_color}
use Rattle.graph.specs.Colored.{color_of}
use Rattle.graph.proofs.CheckLaws.{passed, passes, passed_first, passed_both, passed_one, first_passes, first_refuses, refused_first, all_passed, answered_accepted, written_accepted, written_refused}
use Rattle.graph.proofs.ColorLaws.{color_replicate, color_take}
use Rattle.vizing.specs.Simple.{Incident}
use Rattle.vizing.specs.Demand3.{max_degree, Admitted, Accurate}
use Rattle.vizing.specs.MisraGries.{step, held_after, held, has_loop, same_ends, has_double_edge, simple_checks, misra_gries_checks, misra_gries}
use Rattle.vizing.specs.Step.{Invariant}
-- No name of it is used: the rows are to be checked before the laws, so that a wrong definition is refused for what it gives.
use Rattle.vizing.specs.AddEdgeAnswers
use Rattle.vizing.specs.AddEdge.{has_end, share_end, has_color_above, has_equal_colors, stored_checks, add_edge_checks, stored_list, add_edge, ProperlyStored, Extendable, EdgeAdded, AddingCall, MeetsEdgeAdded, BuiltUp, whole, added, OneByOne}
use Rattle.vizing.specs.Demand3Examples.{list_p13}
use Rattle.vizing.specs.WrongCalls.{refuses_all, all_zero, leaves_slice, AddingFalls, unread, keeps_stored, kept_p13, WrongAddingCallsFall}
use Rattle.vizing.proofs.ClauseLaws.{p13_max_degree, p13_first_three, p13_colors, refused_not_accepted, filled_p13_lem, fills_in_accurate}
use Rattle.vizing.proofs.DefinitionLaws.{step_list}
use Rattle.vizing.proofs.StepLaws.{step_keeps}
use Rattle.vizing.proofs.FirstEdges.{colored_before, edge_count_take}
use Rattle.vizing.proofs.Theorem.{admitted_passed, simple_passes, simple_admitted, accepted_passed, passed_admitted, checks_pass, admitted_first, misra_gries_first, admitted_palette, kept, kept_proper, kept_accurate, run_accurate}

-- ---- edges that share an end

has_end_true : (ends : List ℕ) (k v : ℕ) → has_end ends k v ≡ true → At ends k v
unfolding has_end
has_end_true ends k v e = elim (or_true (eqb (first_end ends k) v) (eqb (second_end ends k) v) e) [
  | inl t ↦ inl (eqb-true (first_end ends k) v t)
  | inr t ↦ inr (eqb-true (second_end ends k) v t)
]

true_has_end : (ends : List ℕ) (k v : ℕ) → At ends k v → has_end ends k v ≡ true
unfolding has_end
true_has_end ends k v (inl p) = rw (eq-eqb (first_end ends k) v p)
true_has_end ends k v (inr p) = true_or (eqb (first_end ends k) v) (eqb (second_end ends k) v) (eq-eqb (second_end ends k) v p)

share_end_true : (ends : List ℕ) (i j : ℕ) → share_end ends i j ≡ true → (v : ℕ) × At ends i v × At ends j v
unfolding share_end
share_end_true ends i j e = elim (or_true (has_end ends i (first_end ends j)) (has_end ends i (second_end ends j)) e) [
  | inl t ↦ (first_end ends j, has_end_true ends i (first_end ends j) t, inl refl)
  | inr t ↦ (second_end ends j, has_end_true ends i (second_end ends j) t, inr refl)
]

true_share_end : (ends : List ℕ) (i j v : ℕ) → At ends i v → At ends j v → share_end ends i j ≡ true
unfolding share_end
true_share_end ends i j v a (inl p) = rw (p, true_has_end ends i v a)
true_share_end ends i j v a (inr p) = true_or (has_end ends i (first_end ends j)) (has_end ends i (second_end ends j)) (rw p (true_has_end ends i v a))

-- ---- 11 refuses exactly what is not properly stored

proper_not_above : (n : ℕ) (ends stored : List ℕ) → ProperlyStored n ends stored → has_color_above n ends stored ≡ false
unfolding has_color_above
proper_not_above n ends stored p =
    let D = max_degree ends (edge_count ends) n in
    by-test (any (λ j. ltb D (color_of stored j)) (length stored))
    (λ t. let r = any_true (λ j. ltb D (color_of stored j)) (length stored) t in absurd (omega (arith, p.range r.0 r.1, ltb-true D (color_of stored r.0) r.2)))
    (λ t. t)

proper_not_equal : (n : ℕ) (ends stored : List ℕ) → ProperlyStored n ends stored → has_equal_colors ends stored ≡ false
unfolding has_equal_colors
proper_not_equal n ends stored p =
    by-test (any (λ j. any (λ i. share_end ends i j && eqb (color_of stored i) (color_of stored j)) j) (length stored))
    (λ t.
    let r = any_true (λ j. any (λ i. share_end ends i j && eqb (color_of stored i) (color_of stored j)) j) (length stored) t in
    let j = r.0 in
    let s = any_true (λ i. share_end ends i j && eqb (color_of stored i) (color_of stored j)) j r.2 in
    let i = s.0 in
    let both = and_true (share_end ends i j) (eqb (color_of stored i) (color_of stored j)) s.2 in
    let at = share_end_true ends i j both.0 in
    absurd (p.sharing i j at.0 (omega (arith, r.1, s.1), at.1) (r.1, at.2) (λ e. omega (arith, s.1, e)) (eqb-true (color_of stored i) (color_of stored j) both.1)))
    (λ t. t)

pub proper_passes : (n : ℕ) (ends stored : List ℕ) → ProperlyStored n ends stored → first_refusal (stored_checks n ends stored) ≡ none
unfolding stored_checks
proper_passes n ends stored p =
    first_passes (has_color_above n ends stored) 11 ((has_equal_colors ends stored gives 11) ∷ []) (proper_not_above n ends stored p)
    ∙ first_passes (has_equal_colors ends stored) 11 [] (proper_not_equal n ends stored p)
    ∙ all_passed

-- Where the tests find nothing, no stored colour is above D, and edges sharing an end differ.
none_above : (n : ℕ) (ends stored : List ℕ) → has_color_above n ends stored ≡ false → (j : ℕ) → j < length stored → color_of stored j ≤ max_degree ends (edge_count ends) n
unfolding has_color_above
none_above n ends stored e j h =
    let D = max_degree ends (edge_count ends) n in
    ltb-false D (color_of stored j) (any_false (λ j'. ltb D (color_of stored j')) (length stored) e j h)

none_equal : (ends stored : List ℕ) → has_equal_colors ends stored ≡ false
    → (i j v : ℕ) → Incident ends (length stored) i v → Incident ends (length stored) j v → i ≢ j → color_of stored i ≢ color_of stored j
unfolding has_equal_colors
none_equal ends stored e i j v a b differ same = elim (dec_lt i j) [ yes h ↦ earlier i j v a b h same | no h ↦ earlier j i v b a (omega arith) (sym same) ]
  where
    earlier : (i j v : ℕ) → Incident ends (length stored) i v → Incident ends (length stored) j v → i < j → color_of stored i ≡ color_of stored j → ⊥
    earlier i j v a b h same =
        let row = any_false (λ j'. any (λ i'. share_end ends i' j' && eqb (color_of stored i') (color_of stored j')) j') (length stored) e j b.0 in
        let met = true_and (share_end ends i j) (eqb (color_of stored i) (color_of stored j)) (true_share_end ends i j v a.1 b.1) (eq-eqb (color_of stored i) (color_of stored j) same) in
        true≢false (sym met ∙ any_false (λ i'. share_end ends i' j && eqb (color_of stored i') (color_of stored j)) j row i h)

passed_proper : (n : ℕ) (ends stored : List ℕ) → first_refusal (stored_checks n ends stored) ≡ none → ProperlyStored n ends stored
unfolding stored_checks
passed_proper n ends stored e =
    let above = passed_one (has_color_above n ends stored) 11 ((has_equal_colors ends stored gives 11) ∷ []) e in
    let equal = passed_one (has_equal_colors ends stored) 11 [] above.1 in
    record { range = none_above n ends stored above.0; sharing = none_equal ends stored equal.0 }

pub improper_refused : (n : ℕ) (ends stored : List ℕ) → (ProperlyStored n ends stored → ⊥) → first_refusal (stored_checks n ends stored) ≡ some 11
unfolding stored_checks
improper_refused n ends stored improper =
    by-test (has_color_above n ends stored)
    (λ t. first_refuses (has_color_above n ends stored) 11 ((has_equal_colors ends stored gives 11) ∷ []) t)
    (λ t. first_passes (has_color_above n ends stored) 11 ((has_equal_colors ends stored gives 11) ∷ []) t ∙ by-test (has_equal_colors ends stored)
    (λ s. first_refuses (has_equal_colors ends stored) 11 [] s)
    (λ s. absurd (improper (record { range = none_above n ends stored t; sharing = none_equal ends stored s }))))

-- ---- the list that begins with the stored colours

stored_length : (stored : List ℕ) → length stored ≤ 4096 → length (stored_list stored) ≡ 4096
unfolding stored_list
stored_length stored h = let more = 4096 - length stored in omega (arith, length-append stored (replicate more no_color), length-replicate {A = ℕ} more no_color)

pub stored_color : (stored : List ℕ) (j : ℕ) → j < length stored → color_of (stored_list stored) j ≡ color_of stored j
unfolding stored_list color_of
stored_color stored j h = get_or-append stored (replicate (4096 - length stored) no_color) no_color j h

pub stored_uncolored : (stored : List ℕ) (j : ℕ) → length stored ≤ j → color_of (stored_list stored) j ≡ no_color
unfolding stored_list color_of
stored_uncolored stored j h =
    let more = replicate (4096 - length stored) no_color in
    let e : j ≡ length stored + (j - length stored) = omega arith in
    ap (λ (i : ℕ). get_or (stored ++ more) i no_color) e ∙ get_or-append-add stored more (j - length stored) no_color ∙ color_replicate (4096 - length stored) (j - length stored)

pub stored_taken : (stored : List ℕ) → take (length stored) (stored_list stored) ≡ stored
unfolding stored_list
stored_taken stored = take-append-le (length stored) stored (replicate (4096 - length stored) no_color) (omega arith) ∙ take-length stored

pub stored_kept : (n : ℕ) (ends stored : List ℕ) → Admitted n ends → length stored ≤ edge_count ends → ProperlyStored n ends stored
    → Invariant ends (edge_count ends) (λ c. c ≤ max_degree ends (edge_count ends) n) (length stored) (stored_list stored)
stored_kept n ends stored a few p = record {
  size = stored_length stored (omega (arith, a.edges));
  proper = λ i j v at_i at_j colored e. elim (dec_eq i j) [
    | inl same ↦ same
    | inr differ ↦
        let hi = colored_before (stored_list stored) (length stored) (stored_uncolored stored) i colored in
        let hj = colored_before (stored_list stored) (length stored) (stored_uncolored stored) j (λ z. colored (e ∙ z)) in
        absurd (p.sharing i j v (hi, at_i.1) (hj, at_j.1) differ (sym (stored_color stored i hi) ∙ e ∙ stored_color stored j hj))
  ];
  done = λ j h. rw (stored_color stored j h) (p.range j h);
  rest = stored_uncolored stored;
}

-- ---- the checks of the call

-- All checks before 11 pass.
pub before_stored : (n : ℕ) (ends stored lent : List ℕ) → Admitted n ends → length stored ≡ edge_count ends - 1 → length lent ≡ edge_count ends
    → first_refusal (add_edge_checks n ends stored lent) ≡ first_refusal (stored_checks n ends stored)
unfolding add_edge_checks
before_stored n ends stored lent a one_fewer size =
    let sized = eqb (length stored) (edge_count ends - 1) && eqb (length lent) (edge_count ends) in
    let last = simple_checks ends ++ stored_checks n ends stored in
    passed_first (graph_checks n ends) ((not sized gives 5) ∷ last) (passes n ends (admitted_passed n ends a))
    ∙ first_passes (not sized) 5 last (ap not (true_and _ _ (eq-eqb (length stored) (edge_count ends - 1) one_fewer) (eq-eqb (length lent) (edge_count ends) size)))
    ∙ passed_first (simple_checks ends) (stored_checks n ends stored) (simple_passes n ends a)

add_edge_passes : (n : ℕ) (ends stored lent : List ℕ) → Extendable n ends stored lent → first_refusal (add_edge_checks n ends stored lent) ≡ none
add_edge_passes n ends stored lent x = before_stored n ends stored lent x.admitted x.one_fewer x.size ∙ proper_passes n ends stored x.proper

passed_extendable : (n : ℕ) (ends stored lent : List ℕ) → first_refusal (add_edge_checks n ends stored lent) ≡ none → Extendable n ends stored lent
unfolding add_edge_checks
passed_extendable n ends stored lent e =
    let m = edge_count ends in
    let sized = eqb (length stored) (m - 1) && eqb (length lent) m in
    let last = simple_checks ends ++ stored_checks n ends stored in
    let graph = passed_both (graph_checks n ends) ((not sized gives 5) ∷ last) e in
    let size = passed_one (not sized) 5 last graph.1 in
    let lengths = and_true (eqb (length stored) (m - 1)) (eqb (length lent) m) (not-false sized size.0) in
    let both = passed_both (simple_checks ends) (stored_checks n ends stored) size.1 in
    record {
      admitted = simple_admitted n ends (passed n ends graph.0) both.0;
      one_fewer = eqb-true (length stored) (m - 1) lengths.0;
      size = eqb-true (length lent) m lengths.1;
      proper = passed_proper n ends stored both.1;
    }

-- ---- what the step gives

-- Of no edges there is nothing to tell apart.
take_none : (m : ℕ) (xs ys : List ℕ) → m ≡ 0 → take m xs ≡ take m ys
take_none m xs ys e = rw e

module _ (n : ℕ) (ends stored lent : List ℕ) (x : Extendable n ends stored lent) where
  abbrev m : ℕ
  m = edge_count ends

  abbrev Ok : ℕ → Type 0
  Ok c = c ≤ max_degree ends m n

  -- The step takes the stored list to one where all m edges have colours and those sharing an end differ.
  step_kept : 0 < m → Invariant ends m Ok m (step ends m n (stored_list stored) (m - 1))
  step_kept some-edge =
      let a = x.admitted in
      let before = subst (λ (k : ℕ). Invariant ends m Ok k (stored_list stored)) x.one_fewer (stored_kept n ends stored a (omega (arith, x.one_fewer)) x.proper) in
      let e : suc (m - 1) ≡ m = omega arith in
      subst (λ (k : ℕ). Invariant ends m Ok k (step ends m n (stored_list stored) (m - 1))) e
      (step_keeps ends m n Ok a.simple a.inside a.edges (admitted_palette n ends a) (stored_list stored) (m - 1) (omega arith) before)

  step_accurate : Accurate n ends (take m (step ends m n (stored_list stored) (m - 1)))
  step_accurate =
      let next = step ends m n (stored_list stored) (m - 1) in
      elim (dec_eq m 0) [
        | inl e ↦ rw (take_none m next (held n ends m) e) (run_accurate n ends x.admitted)
        | inr some-edge ↦ kept_accurate n ends x.admitted next (step_kept (omega arith))
      ]

  add_edge_accepts : Accepted (add_edge n ends stored lent).report
  unfolding add_edge colored
  add_edge_accepts =
      let days = days_of (take m (step ends m n (stored_list stored) (m - 1))) in
      (days, sym (answered_accepted (add_edge_checks n ends stored lent) days (add_edge_passes n ends stored lent x)))

  add_edge_accurate : Accurate n ends (add_edge n ends stored lent).colors
  unfolding add_edge colored
  add_edge_accurate =
      rw (← written_accepted (add_edge_checks n ends stored lent) lent (take m (step ends m n (stored_list stored) (m - 1))) (add_edge_passes n ends stored lent x)) step_accurate

add_edge_admits : (n : ℕ) (ends stored lent : List ℕ) (days : ℕ) → (add_edge n ends stored lent).report ≡ accepted days → Extendable n ends stored lent
unfolding add_edge colored
add_edge_admits n ends stored lent days e =
    let m = edge_count ends in
    passed_extendable n ends stored lent
    (accepted_passed (add_edge_checks n ends stored lent) (days_of (take m (step ends m n (stored_list stored) (m - 1)))) days e)

-- ---- from the colours that misra_gries_edge_color gives

-- The first k colours of a list that has no others make that list again.
stored_take : (l : List ℕ) (k : ℕ) → length l ≡ 4096 → k ≤ 4096 → ((j : ℕ) → k ≤ j → color_of l j ≡ no_color) → stored_list (take k l) ≡ l
unfolding color_of
stored_take l k size few rest =
    let count : length (take k l) ≡ k = length-take-le k l (omega arith) in
    ext_get_or no_color (stored_list (take k l)) l (stored_length (take k l) (omega arith) ∙ sym size) (λ j h. elim (dec_lt j k) [
      | yes b ↦ stored_color (take k l) j (omega arith) ∙ color_take l k j b
      | no b ↦ stored_uncolored (take k l) j (omega arith) ∙ sym (rest j (omega arith))
    ])

held_next : (n : ℕ) (ends : List ℕ) (k : ℕ) → step ends (edge_count ends) n (held n ends k) k ≡ held n ends (suc k)
unfolding held held_after
held_next n ends k = sym (step_list ends (edge_count ends) n (held_after ends (edge_count ends) n k) k)

-- The call leaves as many colours as it was lent places, one for each edge.
colors_length : (n : ℕ) (ends lent : List ℕ) → length lent ≡ edge_count ends → length (misra_gries n ends lent).colors ≡ edge_count ends
unfolding misra_gries colored
colors_length n ends lent e = go (first_refusal (misra_gries_checks n ends lent)) refl
  where
    answer : List ℕ
    answer = take (edge_count ends) (held n ends (edge_count ends))

    go : (o : Option ℕ) → first_refusal (misra_gries_checks n ends lent) ≡ o → length (written (misra_gries_checks n ends lent) lent answer) ≡ edge_count ends
    go none f =
        let a = (passed_admitted n ends lent f).0 in
        ap length (sym (written_accepted (misra_gries_checks n ends lent) lent answer f))
        ∙ length-take-le (edge_count ends) (held n ends (edge_count ends)) (omega (arith, (kept n ends a (edge_count ends) (omega arith)).size, a.edges))
    go (some r) f = ap length (sym (written_refused (misra_gries_checks n ends lent) r lent answer f)) ∙ e

-- With stored colours of the right number that are proper where the list is admitted, both calls are refused by the same number, or none is.
same_refusal : (n : ℕ) (ends stored lent : List ℕ) → length stored ≡ edge_count ends - 1 → (Admitted n ends → ProperlyStored n ends stored)
    → first_refusal (add_edge_checks n ends stored lent) ≡ first_refusal (misra_gries_checks n ends lent)
unfolding add_edge_checks misra_gries_checks
same_refusal n ends stored lent fewer proper = go (first_refusal (misra_gries_checks n ends lent)) refl
  where
    go : (o : Option ℕ) → first_refusal (misra_gries_checks n ends lent) ≡ o → first_refusal (add_edge_checks n ends stored lent) ≡ first_refusal (misra_gries_checks n ends lent)
    go none f =
        let r = passed_admitted n ends lent f in
        add_edge_passes n ends stored lent (record { admitted = r.0; one_fewer = fewer; size = r.1; proper = proper r.0 }) ∙ sym f
    go (some r) f =
        let earlier = length_check (length lent) (edge_count ends) ∷ simple_checks ends in
        rw (eq-eqb (length stored) (edge_count ends - 1) fewer)
        (ap first_refusal (sym (append_assoc (graph_checks n ends) earlier (stored_checks n ends stored))) ∙ refused_first (graph_checks n ends ++ earlier) (stored_checks n ends stored) r f ∙ sym f)

-- Checks that refuse alike, and answers that are the same where they pass, make the same outcome.
pub colored_same : (cs ds : List Check) (lent xs ys : List ℕ) → first_refusal cs ≡ first_refusal ds → (first_refusal ds ≡ none → xs ≡ ys) → colored cs lent xs ≡ colored ds lent ys
unfolding colored answered written
colored_same cs ds lent xs ys e same = go (first_refusal ds) refl
  where
    go : (o : Option ℕ) → first_refusal ds ≡ o → colored cs lent xs ≡ colored ds lent ys
    go none f = rw (e ∙ f, f, same f, answered, written)
    go (some r) f = rw (e ∙ f, f, answered, written)

module _ (n : ℕ) (ends stored lent places : List ℕ) (count : length places ≡ edge_count ends - 1)
    (given : stored ≡ (misra_gries n (take (2 * (edge_count ends - 1)) ends) places).colors) where
  given_fewer : length stored ≡ edge_count ends - 1
  given_fewer =
      let k = edge_count ends - 1 in
      let e = (edge_count_take ends k (omega arith)).1 in
      ap length given ∙ colors_length n (take (2 * k) ends) places (count ∙ sym e) ∙ e

  -- For an admitted list they are what its run holds before the last edge.
  given_held : Admitted n ends → stored ≡ take (edge_count ends - 1) (held n ends (edge_count ends - 1))
  given_held a = given ∙ (misra_gries_first n ends a (edge_count ends - 1) (omega arith)).same places count

  given_proper : Admitted n ends → ProperlyStored n ends stored
  given_proper a =
      let k = edge_count ends - 1 in
      rw (given_held a) (kept_proper n ends a k (omega arith) (held n ends k) (kept n ends a k (omega arith)))

  -- So the step is that of the run.
  given_step : Admitted n ends → take (edge_count ends) (step ends (edge_count ends) n (stored_list stored) (edge_count ends - 1)) ≡ take (edge_count ends) (held n ends (edge_count ends))
  given_step a =
      let m = edge_count ends in
      let k = m - 1 in
      let before = kept n ends a k (omega arith) in
      elim (dec_eq m 0) [
        | inl e ↦ take_none m (step ends m n (stored_list stored) k) (held n ends m) e
        | inr some-edge ↦
            let list = ap stored_list (given_held a) ∙ stored_take (held n ends k) k before.size (omega (arith, a.edges)) before.rest in
            let e : suc k ≡ m = omega arith in
            ap (take m) (ap (λ (l : List ℕ). step ends m n l k) list ∙ held_next n ends k ∙ ap (held n ends) e)
      ]

  given_afresh : add_edge n ends stored lent ≡ misra_gries n ends lent
  unfolding add_edge misra_gries
  given_afresh =
      let m = edge_count ends in
      colored_same (add_edge_checks n ends stored lent) (misra_gries_checks n ends lent) lent (take m (step ends m n (stored_list stored) (m - 1))) (take m (held n ends m))
      (same_refusal n ends stored lent given_fewer given_proper)
      (λ f. given_step (passed_admitted n ends lent f).0)

-- ---- the clause

pub add_edge_clause : MeetsEdgeAdded add_edge
add_edge_clause n ends stored lent = record {
  accepts = add_edge_accepts n ends stored lent;
  admits = add_edge_admits n ends stored lent;
  accurate = λ days e. add_edge_accurate n ends stored lent (add_edge_admits n ends stored lent days e);
  afresh = λ places count given.
      let e = given_afresh n ends stored lent places count given in
      (ap (λ (o : Outcome). o.report) e, ap (λ (o : Outcome). o.colors) e);
}

-- ---- a list built up one edge at a time

-- Of an admitted list, what is lent makes no difference.
report_same : (n : ℕ) (ends lent lent' : List ℕ) → Admitted n ends → length lent ≡ edge_count ends → length lent' ≡ edge_count ends
    → (misra_gries n ends lent).report ≡ (misra_gries n ends lent').report
unfolding misra_gries colored
report_same n ends lent lent' a e e' =
    let days = days_of (take (edge_count ends) (held n ends (edge_count ends))) in
    sym (answered_accepted (misra_gries_checks n ends lent) days (checks_pass n ends lent a e)) ∙ answered_accepted (misra_gries_checks n ends lent') days (checks_pass n ends lent' a e')

module _ (call : AddingCall) (c : MeetsEdgeAdded call) (n : ℕ) (ends : List ℕ) (a : Admitted n ends) where
  abbrev Afresh : ℕ → Outcome → List ℕ → Type 0
  Afresh k outcome lent = (outcome.report ≡ (misra_gries n (take (2 * k) ends) lent).report) × (outcome.colors ≡ (misra_gries n (take (2 * k) ends) lent).colors)

  lent_other : (k : ℕ) → k ≤ edge_count ends → (lent lent' : List ℕ) → length lent ≡ k → length lent' ≡ k → Afresh k (misra_gries n (take (2 * k) ends) lent) lent'
  lent_other k h lent lent' e e' =
      let count = (edge_count_take ends k h).1 in
      let first = (misra_gries_first n ends a k h).same in
      (report_same n (take (2 * k) ends) lent lent' (admitted_first n ends a k h) (e ∙ sym count) (e' ∙ sym count), first lent e ∙ sym (first lent' e'))

  built_afresh : {k : ℕ} {outcome : Outcome} → BuiltUp call n ends k outcome → k ≤ edge_count ends → (lent : List ℕ) → length lent ≡ k → Afresh k outcome lent
  built_afresh (whole k lent e) h lent' e' = lent_other k h lent lent' e e'
  built_afresh (added k before lent b e) h lent' e' =
      let first = take (2 * suc k) ends in
      let fewer : edge_count first - 1 ≡ k = omega (arith, (edge_count_take ends (suc k) h).1) in
      let part : take (2 * (edge_count first - 1)) first ≡ take (2 * k) ends = ap (λ (j : ℕ). take (2 * j) first) fewer ∙ take-take (2 * k) (2 * suc k) ends (omega arith) in
      let places = replicate k no_color in
      let colors = (built_afresh b (omega arith) places (length-replicate k no_color)).1 in
      let now = (c n first before.colors lent).afresh places (length-replicate k no_color ∙ sym fewer) (colors ∙ ap (λ (es : List ℕ). (misra_gries n es places).colors) (sym part)) in
      let other = lent_other (suc k) h lent lent' e e' in
      (now.0 ∙ other.0, now.1 ∙ other.1)

  built_run : {k : ℕ} {outcome : Outcome} → BuiltUp call n ends k outcome → k ≤ edge_count ends → outcome.colors ≡ take k (held n ends k)
  built_run {k} b h =
      let places = replicate k no_color in
      let e = length-replicate k no_color in
      (built_afresh b h places e).1 ∙ (misra_gries_first n ends a k h).same places e

pub one_by_one : OneByOne
one_by_one = record { definition = add_edge_clause; afresh = built_afresh; run = built_run }

-- ---- wrong calls: each contradicts the clause on P13's list with the colours that its run holds before the last edge

p13_extendable : Extendable 4 list_p13 (0 ∷ 1 ∷ 2 ∷ []) (replicate 4 no_color)
unfolding add_edge_checks stored_checks has_color_above has_equal_colors share_end has_end first_refusal graph_checks all_below has_loop has_double_edge any is_loop same_ends first_end second_end color_of max_degree degree edges_at first_edges second_edges second_at
p13_extendable = passed_extendable 4 list_p13 (0 ∷ 1 ∷ 2 ∷ []) (replicate 4 no_color) refl

-- What the clause says of a call there.
abbrev AddedP13 : AddingCall → Type 0
AddedP13 call = let outcome = call 4 list_p13 (0 ∷ 1 ∷ 2 ∷ []) (replicate 4 no_color) in EdgeAdded 4 list_p13 (0 ∷ 1 ∷ 2 ∷ []) (replicate 4 no_color) outcome.report outcome.colors

on_p13_added : (call : AddingCall) → (AddedP13 call → ⊥) → AddingFalls call
on_p13_added call f = record { n = 4; ends = list_p13; stored = 0 ∷ 1 ∷ 2 ∷ []; lent = replicate 4 no_color; extendable = p13_extendable; falls = f }

-- Sharing fails: edges 0 and 1 share node 1.
adding_zero_falls : AddingFalls (unread all_zero)
unfolding color_of first_end second_end
adding_zero_falls = on_p13_added (unread all_zero) (λ a. (a.accurate 1 refl).sharing 0 1 1 (omega arith, inr refl) (omega arith, inl refl) (λ e. omega (arith, e)) refl)

-- The range fails: the slice was lent with a number above D.
adding_leaves_falls : AddingFalls (unread leaves_slice)
unfolding color_of
adding_leaves_falls = on_p13_added (unread leaves_slice) (λ a.
    let r : no_color ≤ max_degree list_p13 4 4 = (a.accurate 0 refl).range 0 (omega arith) in
    omega (arith, r, p13_max_degree))

kept_p13_lem : kept_p13 ≡ 0 ∷ 1 ∷ 2 ∷ 3 ∷ []
kept_p13_lem = ap (λ (D : ℕ). (0 ∷ 1 ∷ 2 ∷ []) ++ (D ∷ [])) p13_max_degree

-- Afresh the list has 2,1,0,2.
keeps_stored_falls : AddingFalls keeps_stored
keeps_stored_falls = on_p13_added keeps_stored (λ a.
    let colors = (a.afresh (replicate 3 no_color) refl (sym p13_first_three)).1 in
    let e : ◌≡◌ {A = ℕ} 0 2 = ap (λ (l : List ℕ). get_or l 0 0) (sym kept_p13_lem ∙ colors ∙ p13_colors) in
    omega (arith, e))

pub wrong_adding_calls_fall : WrongAddingCallsFall
wrong_adding_calls_fall = record {
  refuses = λ number. on_p13_added (unread (refuses_all number)) (λ a. refused_not_accepted number (a.accepts p13_extendable));
  zeros = adding_zero_falls;
  leaves = adding_leaves_falls;
  keeps = keeps_stored_falls;
  accurate = subst (λ (colors : List ℕ). Accurate 4 list_p13 colors) (filled_p13_lem ∙ sym kept_p13_lem) fills_in_accurate;
  clause = λ call f c. f.falls (c f.n f.ends f.stored f.lent);
}
