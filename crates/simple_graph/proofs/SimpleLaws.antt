-- Laws of loops, and of the call.
use Prim.Native.Nat.{ℕ, zero, suc, ◌+◌, ◌*◌, ◌≤◌, ◌<◌}
use mathlib.Core.Path.{◌≡◌, refl, sym, ap, ◌∙◌}
use mathlib.Core.Logic.{◌⊎◌, inl, inr}
use mathlib.Core.List.{List, [], ◌∷◌, ◌++◌}
use mathlib.Core.Bool.{true, false, true≢false, Bool, not, ◌||◌}
use native.Mathlib.Omega.{arith}
use native.Mathlib.Numerals.{add-one}
use lib.ListN.{length, get_or}
use lib.Dec.{eqb, ltb, leb}
use borrow.Author.Tests.{lt-ltb, le-ltb, le-leb, lt-leb, not-false}
use mathlib.Core.Option.{Option, none, some}
use Rattle.lists.proofs.Tests.{by-test}
use Rattle.lists.specs.Search.{any}
use Rattle.graph.specs.Edges.{edge_count, first_end, second_end, is_loop}
use Rattle.vizing.specs.MisraGries.{has_loop, has_double_edge, simple_checks}
use Rattle.graph.specs.Report.{accepted, refused, number, report_of_checked}
use Rattle.graph.specs.Check.{Check, ◌gives◌, first_refusal, graph_checks, check_graph, Passed}
use Rattle.graph.proofs.CheckLaws.{passed, refused_first, passed_first, passed_both, passed_one, first_refuses, first_passes, all_passed, answered_refused, answered_accepted, checked_refused, checked_accepted, graph_refused}
use Rattle.graph.specs.declared.Refusal.{Refusal}
use Rattle.graph.specs.declared.Graph.{Graph}
use Rattle.std.specs.Prelude.{Result, Ok, Err}
use Rattle.std.specs.List.{list_any, range_with_len}
use Rattle.vizing.specs.Demand3.{Admitted}
use Rattle.vizing.proofs.Theorem.{simple_admitted}
use Rattle.simple_graph.specs.Simple.{check_simple}

-- ---- the search for a loop

-- Whether a number from a on passes is asked of the numbers of a list.
any_listed : (t : ℕ → Bool) (a n : ℕ) → any t (a + n) ≡ any t a || list_any t (range_with_len a n)
unfolding any
any_listed t a zero = let e : a + zero ≡ a = omega arith in rw e (by-test (any t a) (λ q. rw q) (λ q. rw q))
any_listed t a (suc n) =
    let e : a + suc n ≡ suc a + n = omega arith in
    rw (e, add-one a) (any_listed t (suc a) n ∙ by-test (t a) (λ q. rw (q, any) (by-test (any t a) (λ r. rw r) (λ r. rw r))) (λ q. rw (q, any)))

-- The ends of an edge are read at the places that the code reads.
pub loop_told : (ends : List ℕ) (b : Bool)
    → b ≡ list_any (λ k. eqb (get_or ends (2 * k) 0) (get_or ends (2 * k + 1) 0)) (range_with_len 0 (edge_count ends)) → b ≡ has_loop ends (edge_count ends)
unfolding has_loop is_loop first_end second_end any
loop_told ends b e = let z : 0 + edge_count ends ≡ edge_count ends = omega arith in e ∙ sym (rw z at (any_listed (is_loop ends) 0 (edge_count ends)))

-- ---- the graph checks and then those for loops and double edges: one law for each answer, and what the answer tells a caller

-- A check that passes wherever those before it do may be left out.
left_out : (b : Bool) (k : ℕ) (cs ds : List Check) → (first_refusal cs ≡ none → b ≡ false) → first_refusal (cs ++ (b gives k) ∷ ds) ≡ first_refusal (cs ++ ds)
unfolding first_refusal
left_out b k [] ds h = simp (h refl)
left_out b k ((true gives j) ∷ cs) ds h = refl
left_out b k ((false gives j) ∷ cs) ds h = left_out b k cs ds h

module _ (n : ℕ) (ends : List ℕ) (sized : Bool) (starts entries : List ℕ) where
  abbrev after_graph : List Check
  after_graph = (leb (length starts) n gives 5) ∷ (ltb (length entries) (length ends) gives 5) ∷ (not sized gives 5) ∷ simple_checks ends

  -- ---- one law for each answer

  refuses : (k : ℕ) → first_refusal (graph_checks n ends ++ after_graph) ≡ some k → refused k ≡ check_simple n ends sized starts entries
  unfolding check_simple
  refuses k e = answered_refused (graph_checks n ends ++ after_graph) k _ e

  pub graph_no : (c : Result Graph Refusal) (r : Refusal) → report_of_checked c ≡ check_graph n ends → c ≡ Err r → refused (number r) ≡ check_simple n ends sized starts entries
  graph_no c r e p = refuses (number r) (refused_first (graph_checks n ends) after_graph (number r) (graph_refused n ends c r e p))

  module _ (passes : first_refusal (graph_checks n ends) ≡ none) where
    after : (o : Option ℕ) → first_refusal after_graph ≡ o → first_refusal (graph_checks n ends ++ after_graph) ≡ o
    after o q = passed_first (graph_checks n ends) after_graph passes ∙ q

    -- One of the slices is too short, or the caller's own are not of the right lengths.
    pub length_no : (length starts ≤ n) ⊎ ((length entries < length ends) ⊎ (sized ≡ false)) → refused 5 ≡ check_simple n ends sized starts entries
    length_no w = refuses 5 (after _ (go w))
      where
        go : (length starts ≤ n) ⊎ ((length entries < length ends) ⊎ (sized ≡ false)) → first_refusal after_graph ≡ some 5
        go w = by-test (leb (length starts) n)
            (λ t. first_refuses (leb (length starts) n) 5 _ t)
            (λ t. first_passes (leb (length starts) n) 5 _ t ∙ by-test (ltb (length entries) (length ends))
            (λ u. first_refuses (ltb (length entries) (length ends)) 5 _ u)
            (λ u. first_passes (ltb (length entries) (length ends)) 5 _ u ∙ first_refuses (not sized) 5 _ (elim w [
              | inl h ↦ absurd (true≢false (sym (le-leb (length starts) n h) ∙ t))
              | inr v ↦ elim v [ inl h ↦ absurd (true≢false (sym (lt-ltb (length entries) (length ends) h) ∙ u)) | inr h ↦ ap not h ]
            ])))

    module _ (rows : n < length starts) (room : length ends ≤ length entries) (size : sized ≡ true) where
      after_size : first_refusal after_graph ≡ first_refusal (simple_checks ends)
      after_size = first_passes (leb (length starts) n) 5 _ (lt-leb (length starts) n rows)
          ∙ first_passes (ltb (length entries) (length ends)) 5 _ (le-ltb (length entries) (length ends) room)
          ∙ first_passes (not sized) 5 _ (ap not size)

      pub loop_no : true ≡ has_loop ends (edge_count ends) → refused 6 ≡ check_simple n ends sized starts entries
      loop_no h = refuses 6 (after _ (after_size ∙ first_refuses (has_loop ends (edge_count ends)) 6 _ (sym h)))

      module _ (h : false ≡ has_loop ends (edge_count ends)) where
        after_loop : (o : Option ℕ) → first_refusal ((has_double_edge ends (edge_count ends) gives 7) ∷ []) ≡ o → first_refusal (graph_checks n ends ++ after_graph) ≡ o
        after_loop o q = after _ (after_size ∙ (first_passes (has_loop ends (edge_count ends)) 6 _ (sym h) ∙ q))

        pub double_no : true ≡ has_double_edge ends (edge_count ends) → refused 7 ≡ check_simple n ends sized starts entries
        double_no k = refuses 7 (after_loop _ (first_refuses (has_double_edge ends (edge_count ends)) 7 [] (sym k)))

        pub simple_yes : false ≡ has_double_edge ends (edge_count ends) → accepted (n, edge_count ends) ≡ check_simple n ends sized starts entries
        unfolding check_simple
        simple_yes k = answered_accepted (graph_checks n ends ++ after_graph) (n, edge_count ends) (after_loop _ (first_passes (has_double_edge ends (edge_count ends)) 7 [] (sym k) ∙ all_passed))

  -- ---- what the answer tells, where both slices have room for every table

  module _ (c : Result Graph Refusal) (e : report_of_checked c ≡ check_simple n ends sized starts entries) (rows : 512 < length starts) (room : 8192 ≤ length entries) where
    roomy : first_refusal (graph_checks n ends ++ after_graph) ≡ first_refusal (graph_checks n ends ++ (not sized gives 5) ∷ simple_checks ends)
    roomy =
        left_out (leb (length starts) n) 5 (graph_checks n ends) _ (λ q. lt-leb (length starts) n (omega (arith, (passed n ends q).nodes)))
        ∙ left_out (ltb (length entries) (length ends)) 5 (graph_checks n ends) _ (λ q. le-ltb (length entries) (length ends) (omega (arith, (passed n ends q).even, (passed n ends q).edges)))

    pub simple_refused : (r : Refusal) → c ≡ Err r → first_refusal (graph_checks n ends ++ (not sized gives 5) ∷ simple_checks ends) ≡ some (number r)
    unfolding check_simple
    simple_refused r p = sym roomy ∙ checked_refused (graph_checks n ends ++ after_graph) (n, edge_count ends) c r e p

    -- No check refuses: what the tests of the caller's slices and of the list leave.
    pub simple_accepted : (g : Graph) → c ≡ Ok g → Passed n ends × Admitted n ends × (sized ≡ true)
    unfolding check_simple
    simple_accepted g p =
        let none-refuses = sym roomy ∙ (checked_accepted (graph_checks n ends ++ after_graph) (n, edge_count ends) c g e p).0 in
        let both = passed_both (graph_checks n ends) ((not sized gives 5) ∷ simple_checks ends) none-refuses in
        let size = passed_one (not sized) 5 (simple_checks ends) both.1 in
        let q = passed n ends both.0 in
        (q, simple_admitted n ends q size.1, not-false sized size.0)
