-- Laws of the fan by marks: the search by marks and table finds the fan of the definition.
use Prim.Native.Nat.{ℕ, suc, ◌+◌, ◌-◌, ◌≤◌, ◌<◌}
use mathlib.Core.Path.{◌≡◌, refl, sym, ap, ◌∙◌}
use mathlib.Core.Logic.{inl, inr, ◌≢◌}
use mathlib.Core.List.{List, [], ◌∷◌, ◌++◌, append_assoc, append-nil}
use mathlib.Core.Option.{none, some}
use mathlib.Core.Bool.{false, not, ◌&&◌}
use native.Mathlib.Omega.{arith}
use native.Mathlib.Numerals.{add-one}
use lib.ListN.{length, get_or, set, take, drop, length-set, length-append, take-append-drop}
use lib.Seq.{take-suc-set, length-take-le, get_or-set_same, get_or-set_other}
use lib.Dec.{eqb}
use borrow.Author.Tests.{eq-eqb, ne_eqb}
use Rattle.lists.proofs.Tests.{by-test, dec_eq}
use Rattle.lists.specs.Member.{Mem, elem}
use Rattle.lists.specs.Search.{first_that}
use Rattle.lists.proofs.SearchLaws.{first_that_same, first_behind}
use Rattle.graph.specs.Edges.{first_end, second_end, far_end, edges_at, degree}
use Rattle.graph.proofs.EdgeLaws.{far_first, edge_at, at_edge}
use Rattle.graph.specs.Color.{no_color}
use Rattle.graph.specs.Colored.{color_of, is_colored}
use Rattle.vizing.specs.MisraGries.{is_free, joins, first_joining, fan_of}
use Rattle.vizing.proofs.StepForm.{grow_fan, fan_form}
use Rattle.graph.proofs.ColorLaws.{is_colored_true}
use Rattle.vizing.proofs.DefinitionLaws.{first_joining_some}
use Rattle.vizing.specs.Simple.{Incident}
use Rattle.vizing.proofs.Fan.{fan_at, Grown, grown_fan, fan_nodup, fan_grown, fan_length}
use Rattle.edge_table.specs.EdgeTable.{option_of, is_empty}
use Rattle.graph.specs.declared.EdgeIndex.{EdgeIndex}
use Rattle.std.specs.Prelude.{Option, Some, None}
use Rattle.fan.specs.Candidates.{may_join, joins_marked}
use Rattle.fan.proofs.CandidateLaws.{NoneJoins}
use Rattle.misra_gries.specs.Step.{FanReady}

-- ---- an edge takes the mark

-- The edges that have the mark are those of the fan.
abbrev pub Marks : List ℕ → ℕ → List ℕ → Type 0
Marks M s fan = (j : ℕ) → eqb (get_or M j 0) s ≡ elem j fan

marks_none : (M : List ℕ) (s : ℕ) → ((j : ℕ) → get_or M j 0 < s) → Marks M s []
unfolding elem
marks_none M s low j = ne_eqb (get_or M j 0) s (λ z. omega (arith, low j))

module _ (M : List ℕ) (s e : ℕ) (h : e < length M) where
  -- What holds of each edge and its mark.
  mark_cases : (P : ℕ → ℕ → Type 0) → P e s → ((j : ℕ) → j ≢ e → P j (get_or M j 0)) → (j : ℕ) → P j (get_or (set M e s) j 0)
  mark_cases P here other j = elim (dec_eq j e) [
    | inl p ↦ rw (p, get_or-set_same M e s 0 h) here
    | inr n ↦ rw (get_or-set_other M e j s 0 n) (other j n)
  ]

  marks_more : (fan : List ℕ) → Marks M s fan → Marks (set M e s) s (e ∷ fan)
  unfolding elem
  marks_more fan marks = mark_cases (λ j y. eqb y s ≡ elem j (e ∷ fan)) (rw (eq-eqb s s refl, eq-eqb e e refl)) (λ j n. rw (ne_eqb j e n) (marks j))

  -- The edge may no longer join, and for the others nothing changes.
  passed_mark : (l near : List ℕ) (lo : ℕ) → NoneJoins l M s near lo → NoneJoins l (set M e s) s near lo
  unfolding NoneJoins may_join
  passed_mark l near lo passed k =
      mark_cases (λ j y. Mem j (take lo near) → not (eqb y s) && is_colored l j ≡ false) (λ p. rw (eq-eqb s s refl)) (λ j n. passed j) k

-- ---- the search by marks and table is the definition's

module _ (l T M : List ℕ) (s x : ℕ) (ks fan : List ℕ) (marks : Marks M s fan) (says : (c : ℕ) → c ≢ no_color → is_empty T x c ≡ is_free l ks c) where
  joins_marked_lem : (k : ℕ) → joins_marked l T M s x k ≡ joins l ks fan k
  unfolding joins_marked may_join joins
  joins_marked_lem k = rw (marks k) (by-test (elem k fan)
      (λ e. rw e)
      (λ e. rw e (by-test (is_colored l k) (λ t. rw (t, says (color_of l k) (is_colored_true l k t))) (λ t. rw t))))

  first_marked : (near : List ℕ) → first_that (joins_marked l T M s x) near ≡ first_joining l ks fan near
  unfolding first_joining
  first_marked near = first_that_same (joins_marked l T M s x) (joins l ks fan) near (λ k p. joins_marked_lem k)

  -- Also where it starts at lo.
  first_from : (near : List ℕ) (lo : ℕ) → NoneJoins l M s near lo → first_that (joins_marked l T M s x) (drop lo near) ≡ first_joining l ks fan near
  unfolding NoneJoins joins_marked
  first_from near lo passed =
      sym (first_behind (joins_marked l T M s x) (take lo near) (drop lo near) (λ k p. rw (passed k p)))
      ∙ ap (first_that (joins_marked l T M s x)) (take-append-drop lo near)
      ∙ first_marked near

-- ---- growing

module _ (ends : List ℕ) (m fuel : ℕ) (l : List ℕ) (u : ℕ) (fan : List ℕ) (x : ℕ) where
  grow_none : first_joining l (edges_at ends m x) fan (edges_at ends m u) ≡ none → grow_fan ends m (suc fuel) l u fan x ≡ []
  unfolding grow_fan
  grow_none p = rw (p, grow_fan)

  grow_some : (e : ℕ) → first_joining l (edges_at ends m x) fan (edges_at ends m u) ≡ some e
      → grow_fan ends m (suc fuel) l u fan x ≡ e ∷ grow_fan ends m fuel l u (e ∷ fan) (far_end ends e u)
  unfolding grow_fan
  grow_some e p = rw (p, grow_fan)

-- Of the fan of edge k at u, `len` edges stand in out and have the mark s; edge e is the next, and what follows it is the definition's.
pub record Growing (ends : List ℕ) (m : ℕ) (l : List ℕ) (s k u : ℕ) (out M : List ℕ) (len e : ℕ) : Type 0 where
  pub fan : List ℕ
  pub marks : Marks M s fan
  pub low : (j : ℕ) → get_or M j 0 ≤ s
  pub size : m ≤ length M
  pub next : e < m
  pub inside : len ≤ length out
  pub follows : take len out ++ (e ∷ grow_fan ends m (4096 - len) l u (e ∷ fan) (far_end ends e u)) ≡ fan_of ends m l k

module _ (ends : List ℕ) (m : ℕ) (l T M₀ : List ℕ) (s : ℕ) (near : List ℕ) (k u : ℕ) (R : FanReady ends m l T M₀ s near k u) where
  pub growing_start : (out : List ℕ) → Growing ends m l s k u out M₀ 0 k
  growing_start out = record {
    fan = [];
    marks = marks_none M₀ s R.unmarked;
    low = λ j. omega (arith, R.unmarked j);
    size = R.size;
    next = R.edge;
    inside = omega arith;
    follows = rw (R.node, far_first ends k (first_end ends k) refl) (sym (fan_form ends m l k));
  }

  -- Each edge at u is in the fan at most once.
  fan_short : length (fan_of ends m l k) ≤ 512
  unfolding degree
  fan_short = rw (fan_form ends m l k) (omega (arith, few, fan_length ends m (first_end ends k) (k ∷ later) (fan_nodup grown) (fan_at (grown_fan grown) (R.edge, inl refl))))
    where
      later : List ℕ
      later = grow_fan ends m 4096 l (first_end ends k) (k ∷ []) (second_end ends k)

      few : length (edges_at ends m (first_end ends k)) ≤ 512
      few = rw (← R.node, ← R.candidates) R.few

      grown : Grown (Incident ends m) (far_end ends) (first_end ends k) (color_of l) (k ∷ []) k later
      grown = rw (← far_first ends k (first_end ends k) refl)
          (fan_grown ends m l 4096 (first_end ends k) (k ∷ []) k (λ p. p, tt)
          (λ i p. elim p [ inl z ↦ rw z (at_edge ends m (first_end ends k) k R.edge (inl refl)) | inr q ↦ absurd q ])
          (omega (arith, few)))

  module _ (out M : List ℕ) (len e : ℕ) (G : Growing ends m l s k u out M len e) where
    pub growing_few : len + 1 ≤ 512
    growing_few = omega (arith, fan_short, length-take-le len out G.inside, simp length-append at (ap length G.follows))

    -- Edge e takes the mark.
    module _ (M' : List ℕ) (marked : M' ≡ set M e s) where
      e_inside : e < length M
      e_inside = omega (arith, G.next, G.size)

      pub growing_low : (j : ℕ) → get_or M' j 0 ≤ s
      growing_low = rw marked (mark_cases M s e e_inside (λ j y. y ≤ s) (omega arith) (λ j n. G.low j))

      pub growing_passed : (lo : ℕ) → NoneJoins l M s near lo → NoneJoins l M' s near lo
      growing_passed lo passed = rw marked (passed_mark M s e e_inside l near lo passed)

      marks_e : Marks M' s (e ∷ G.fan)
      marks_e = rw marked (marks_more M s e e_inside G.fan G.marks)

      -- It is written, and at its far end x the search answers r.
      module _ (room : len < length out) (x : ℕ) (far : x ≡ far_end ends e u) (lo : ℕ) (passed : NoneJoins l M' s near lo) (r : Option EdgeIndex)
          (answer : option_of r ≡ first_that (joins_marked l T M' s x) (drop lo near)) where
        found : first_joining l (edges_at ends m (far_end ends e u)) (e ∷ G.fan) (edges_at ends m u) ≡ option_of r
        found = rw (← R.candidates, ← far) (sym (answer ∙ first_from l T M' s x (edges_at ends m x) (e ∷ G.fan) marks_e (R.says_free x) near lo passed))

        abbrev fuel : ℕ
        fuel = 4096 - suc len

        written : take (len + 1) (set out len e) ++ grow_fan ends m (suc fuel) l u (e ∷ G.fan) (far_end ends e u) ≡ fan_of ends m l k
        written =
            let f : 4096 - len ≡ suc fuel = omega (arith, growing_few) in
            rw (add-one len, take-suc-set out len e room, append_assoc (take len out) (e ∷ []) (grow_fan ends m (suc fuel) l u (e ∷ G.fan) (far_end ends e u)))
            (rw f at G.follows)

        pub growing_stop : r ≡ None → take (len + 1) (set out len e) ≡ fan_of ends m l k
        growing_stop p = sym (append-nil (take (len + 1) (set out len e)))
            ∙ (rw (grow_none ends m fuel l u (e ∷ G.fan) (far_end ends e u) (found ∙ ap option_of p)) at written)

        pub growing_more : (d : EdgeIndex) → r ≡ Some d → Growing ends m l s k u (set out len e) M' (len + 1) d.0
        growing_more d p = record {
          fan = e ∷ G.fan;
          marks = marks_e;
          low = growing_low;
          size = rw (marked, length-set M e s) G.size;
          next = (edge_at ends m u d.0 (first_joining_some l (edges_at ends m (far_end ends e u)) (e ∷ G.fan) (edges_at ends m u) d.0 (found ∙ ap option_of p)).0).0;
          inside = rw (length-set out len e) (omega arith);
          follows = rw (add-one len) (rw (add-one len, grow_some ends m fuel l u (e ∷ G.fan) (far_end ends e u) d.0 (found ∙ ap option_of p)) at written);
        }
