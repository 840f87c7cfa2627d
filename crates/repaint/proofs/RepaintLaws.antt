-- The edge table stays the table of the working list: at the start, when an edge loses or takes a colour, and when edges take new colours in place of their own.
use Prim.Native.Nat.{ℕ, ◌+◌, ◌*◌, ◌≤◌, ◌<◌, zero, suc, min}
use mathlib.Core.Path.{◌≡◌, refl, sym, ap, subst, ◌∙◌}
use mathlib.Core.Logic.{◌≢◌, ◌⊎◌, inl, inr}
use mathlib.Core.List.{List, [], ◌∷◌, map}
use native.Mathlib.Omega.{arith}
use native.Mathlib.Decide.{dec_lt}
use lib.ListN.{get_or, replicate, length-replicate, get_or-replicate, get_or-eq_default, set, length, drop, length-set, drop_of_length-le, length-map, length-append}
use native.Mathlib.Numerals.{add-one}
use lib.Seq.{drop-cons, set_out, get_or-set_same, get_or-set_other, set-set, set_comm}
use borrow.Author.Tests.{lt-ltb, le-ltb, ne_eqb}
use mathlib.Core.Option.{some}
use lib.Dec.{eqb}
use Rattle.lists.specs.Member.{Mem, Nodup}
use Rattle.graph.specs.Edges.{edges_at, first_end, second_end, At, far_end, edge_count}
use Rattle.graph.proofs.EdgeLaws.{edge_at, at_edge}
use Rattle.graph.specs.Color.{no_color}
use Rattle.graph.specs.Colored.{color_of, smallest_free_at}
use Rattle.vizing.specs.MisraGries.{is_none, is_free, edge_of_color, store, swap, exchange, step}
use Rattle.graph.proofs.ColorLaws.{NoneHas, color_replicate, smallest_free_found, color_set_same, color_set_other}
use Rattle.vizing.proofs.DefinitionLaws.{none_has_none, is_free_true, is_free_false, some_or_none, edge_of_color_some, edge_of_color_none, color_store_other}
use Rattle.edge_table.specs.EdgeTable.{no_edge, entry_at, is_empty, smallest_empty, edge_of_entry, table_edge, exchanged_colors, rotated_colors}
use Rattle.repaint.specs.Repaint.{State, state, entered, entered_at_ends, uncolored, colored, all_uncolored, all_colored, repainted, FitsTable, TableOf, Repaintable}
use Rattle.edge_table.proofs.EdgeTableLaws.{entry_place, no_place, reads_none, FirstEmpty, first_empty, reads_edge}
use Rattle.lists.proofs.Tests.{dec_eq}
use Rattle.lists.proofs.SearchLaws.{first_that_same}
use Rattle.vizing.specs.Coloring.{Free, Proper}
use Rattle.vizing.proofs.AlternatingPath.{color_edge, uncolor_edge, swap_left, swap_right, Exchanged, path_edge, exchange_proper, exchange_colored}
use Rattle.vizing.specs.Simple.{Incident}
use Rattle.lists.proofs.MemberLaws.{dec_mem, mem_append, map_mem}
use Rattle.vizing.proofs.StepForm.{rotate_places, step_parts, step_form}
use Rattle.vizing.specs.Step.{Invariant}
use Rattle.vizing.specs.Demand3.{max_degree, Admitted}
use Rattle.vizing.proofs.Theorem.{max_degree_attained}
use Rattle.vizing.proofs.SimpleLaws.{degree_below}
use Rattle.vizing.proofs.StepLaws.{FoundLaws}

-- ---- when a list is the edge table of a working list, that it is so at the start, and what it then answers

-- The table beside the working list is its table.
abbrev HasTable : List ℕ → ℕ → State → Type 0
HasTable ends m s = TableOf ends m s.work s.table

-- A function that left the two lists l' and T'.
leaves_table : (ends : List ℕ) (m : ℕ) (l l' T' : List ℕ) (s : State) → state l' T' ≡ s → s.work ≡ l → TableOf ends m l s.table → (l' ≡ l) × TableOf ends m l' T'
leaves_table ends m l l' T' s e w L = (ap (λ (r : State). r.work) e ∙ w, subst (HasTable ends m) (sym e) (rw w L))

-- ---- the start

pub get_or_same : (n i x : ℕ) → get_or (replicate n x) i x ≡ x
get_or_same n i x = elim (dec_lt i n) [ yes h ↦ get_or-replicate n i x x h | no h ↦ get_or-eq_default (replicate n x) x (rw (length-replicate n x) (omega arith)) ]

empty_replicate : (N v c : ℕ) → no_edge ≡ entry_at (replicate N no_edge) v c
empty_replicate N v c = elim (dec_lt v 512) [
  | yes h ↦ sym (entry_place (replicate N no_edge) v c h ∙ get_or_same N (c * 512 + v) no_edge)
  | no h ↦ no_place (replicate N no_edge) v c (omega arith)
]

-- No edge is coloured and every place is empty.
start_table : (ends : List ℕ) (m M N : ℕ) → FitsTable ends m → m ≤ M → N ≡ 294912 → TableOf ends m (replicate M no_color) (replicate N no_edge)
start_table ends m M N fits h e = record {
  fits = fits;
  work_size = rw (length-replicate M no_color) h;
  table_size = length-replicate N no_edge ∙ e;
  proper = λ i j v a b colored same. absurd (colored (color_replicate M i));
  colors = λ k b colored. absurd (colored (color_replicate M k));
  says = λ v c n. sym (reads_none (replicate N no_edge) v c no_edge (empty_replicate N v c) refl)
      ∙ sym (none_has_none (replicate M no_color) c (edges_at ends m v) (λ k p z. n (sym z ∙ color_replicate M k)));
}

-- ---- a list that demand 3 admits

-- D is below the rows of the edge table, as it is below the number of nodes if there are any.
pub max_degree_below : (n : ℕ) (ends : List ℕ) → Admitted n ends → max_degree ends (edge_count ends) n < 576
unfolding max_degree
max_degree_below zero ends a = omega arith
max_degree_below (suc n) ends a =
    let m = edge_count ends in
    let r = max_degree_attained ends m (suc n) (omega arith) in
    omega (arith, r.2, degree_below ends m (suc n) a.simple a.inside r.0 r.1, a.nodes)

pub admitted_table : (n : ℕ) (ends : List ℕ) → Admitted n ends → (N : ℕ) → N ≡ 294912 → TableOf ends (edge_count ends) (replicate 4096 no_color) (replicate N no_edge)
admitted_table n ends a N e = start_table ends (edge_count ends) 4096 N
    (record { edges = a.edges; nodes = λ k h. let r = a.inside k h in (omega (arith, r.0, a.nodes), omega (arith, r.1, a.nodes)) })
    a.edges e

-- ---- the answers

module _ (ends : List ℕ) (m : ℕ) (l T : List ℕ) (L : TableOf ends m l T) where
  -- `is_free`
  pub says_free : (v c : ℕ) → c ≢ no_color → is_empty T v c ≡ is_free l (edges_at ends m v) c
  unfolding is_empty is_free
  says_free v c n = ap is_none (L.says v c n)

  -- `smallest_free`: where each row holds an edge at the node, 576 is free, since no edge has it.
  pub says_smallest : (v : ℕ) → smallest_empty T v ≡ smallest_free_at l (edges_at ends m v)
  says_smallest v = sym (smallest_free_found l ks c (omega (arith, F.bound)) none_has used)
    where
      ks : List ℕ
      ks = edges_at ends m v

      c : ℕ
      c = smallest_empty T v

      F : FirstEmpty T v c
      F = first_empty T v

      none_has : NoneHas l ks c
      none_has = elim (dec_lt c 576) [
        | yes h ↦ is_free_true l ks c (sym (says_free v c (λ z. omega arith)) ∙ F.empty h)
        | no h ↦ λ k p z. omega (arith, F.bound, L.colors k (edge_at ends m v k p).0 (λ y. omega (arith, F.bound)))
      ]

      used : (b : ℕ) → b < c → (k : ℕ) × Mem k ks × (color_of l k ≡ b)
      used b less = is_free_false l ks b (sym (says_free v b (λ z. omega (arith, F.bound))) ∙ F.smaller b less)

-- Laws of what is entered in the table, one edge after the other.

-- ---- what is entered

pub entered_place : (T : List ℕ) (v c x : ℕ) → v < 512 → set T (c * 512 + v) x ≡ entered T v c x
unfolding entered
entered_place T v c x h = simp (lt-ltb _ _ h)

pub entered_no_place : (T : List ℕ) (v c x : ℕ) → 512 ≤ v → T ≡ entered T v c x
unfolding entered
entered_no_place T v c x h = simp (le-ltb _ _ h)

pub entered_past_end : (T : List ℕ) (v c x : ℕ) → v < 512 → length T ≤ c * 512 + v → T ≡ entered T v c x
entered_past_end T v c x b h = sym (set_out T (c * 512 + v) x h) ∙ entered_place T v c x b

length_entered : (T : List ℕ) (v c x : ℕ) → length (entered T v c x) ≡ length T
length_entered T v c x = elim (dec_lt v 512) [
  | yes b ↦ ap length (sym (entered_place T v c x b)) ∙ length-set T (c * 512 + v) x
  | no b ↦ ap length (sym (entered_no_place T v c x (omega arith)))
]

entry_same : (T : List ℕ) (v c x : ℕ) → v < 512 → c * 512 + v < length T → entry_at (entered T v c x) v c ≡ x
entry_same T v c x b h = rw (← entered_place T v c x b) (entry_place (set T (c * 512 + v) x) v c b ∙ get_or-set_same T (c * 512 + v) x no_edge h)

-- Two places of the table are one only for the same node and the same colour.
place_injective : (u a v c : ℕ) → u < 512 → v < 512 → a * 512 + u ≡ c * 512 + v → (u ≡ v) × (a ≡ c)
place_injective u a v c ha hc e = (omega arith, omega arith)

entry_other : (T : List ℕ) (v c x u a : ℕ) → ((u ≡ v) × (a ≡ c) → ⊥) → entry_at (entered T v c x) u a ≡ entry_at T u a
entry_other T v c x u a n = go (dec_lt u 512) (dec_lt v 512)
  where
    go : Dec (u < 512) → Dec (v < 512) → entry_at (entered T v c x) u a ≡ entry_at T u a
    go (no ha) hc = sym (no_place (entered T v c x) u a (omega arith)) ∙ no_place T u a (omega arith)
    go (yes ha) (no hc) = ap (λ (l : List ℕ). entry_at l u a) (sym (entered_no_place T v c x (omega arith)))
    go (yes ha) (yes hc) = rw (← entered_place T v c x hc)
        (entry_place (set T (c * 512 + v) x) u a ha
        ∙ get_or-set_other T (c * 512 + v) (a * 512 + u) x no_edge (λ e. n (place_injective u a v c ha hc e))
        ∙ sym (entry_place T u a ha))

length_entered_at_ends : (ends T : List ℕ) (k c x : ℕ) → length (entered_at_ends ends T k c x) ≡ length T
unfolding entered_at_ends
length_entered_at_ends ends T k c x = length_entered (entered T (first_end ends k) c x) (second_end ends k) c x ∙ length_entered T (first_end ends k) c x

-- At the ends of the edge the entry stands, also at a loop's one end.
entry_at_end : (ends T : List ℕ) (k c x v : ℕ) → (first_end ends k < 512) × (second_end ends k < 512) → c * 512 + first_end ends k < length T → c * 512 + second_end ends k < length T → At ends k v
    → entry_at (entered_at_ends ends T k c x) v c ≡ x
unfolding entered_at_ends
entry_at_end ends T k c x v b f s at = go (dec_eq v (second_end ends k)) at
  where
    T' : List ℕ
    T' = entered T (first_end ends k) c x

    go : (v ≡ second_end ends k) ⊎ (v ≢ second_end ends k) → At ends k v → entry_at (entered T' (second_end ends k) c x) v c ≡ x
    go (inl e) a = rw e (entry_same T' (second_end ends k) c x b.1 (rw (length_entered T (first_end ends k) c x) s))
    go (inr n) (inl e) = entry_other T' (second_end ends k) c x v c (λ p. n p.0) ∙ rw (← e) (entry_same T (first_end ends k) c x b.0 f)
    go (inr n) (inr e) = absurd (n (sym e))

-- Everywhere else the entry is as before.
entry_elsewhere : (ends T : List ℕ) (k c x v a : ℕ) → (At ends k v × (a ≡ c) → ⊥) → entry_at (entered_at_ends ends T k c x) v a ≡ entry_at T v a
unfolding entered_at_ends
entry_elsewhere ends T k c x v a n =
    entry_other (entered T (first_end ends k) c x) (second_end ends k) c x v a (λ p. n (inr (sym p.0), p.1))
    ∙ entry_other T (first_end ends k) c x v a (λ p. n (inl (sym p.0), p.1))

-- ---- one edge after the other, as the code goes on with it

pub uncolor_next : (ends : List ℕ) (s : State) (ks : List ℕ) (i : ℕ) → i < length ks
    → all_uncolored ends s (drop i ks) ≡ all_uncolored ends (uncolored ends s (get_or ks i 0)) (drop (i + 1) ks)
unfolding all_uncolored
uncolor_next ends s ks i h = rw (drop-cons ks i 0 h, add-one i, all_uncolored)

pub uncolor_end : (ends : List ℕ) (s : State) (ks : List ℕ) (i : ℕ) → length ks ≤ i → all_uncolored ends s (drop i ks) ≡ s
unfolding all_uncolored
uncolor_end ends s ks i h = rw (drop_of_length-le ks {i = i} h)

pub color_next : (ends : List ℕ) (s : State) (ks cs : List ℕ) (i : ℕ) → i < length ks → i < length cs
    → all_colored ends s (drop i ks) (drop i cs) ≡ all_colored ends (colored ends s (get_or ks i 0) (get_or cs i 0)) (drop (i + 1) ks) (drop (i + 1) cs)
unfolding all_colored
color_next ends s ks cs i h b = rw (drop-cons ks i 0 h, drop-cons cs i 0 b, add-one i, all_colored)

module _ (ends : List ℕ) (s : State) (ks cs : List ℕ) (i : ℕ) (r : State) (e : all_colored ends s (drop i ks) (drop i cs) ≡ r) where
  pub color_end : length ks ≤ i → s ≡ r
  unfolding all_colored
  color_end h = rw (drop_of_length-le ks {i = i} h) at e

  -- The colours are used up.
  pub color_short : i < length ks → length cs ≤ i → s ≡ r
  unfolding all_colored
  color_short h b = rw (drop-cons ks i 0 h, drop_of_length-le cs {i = i} b) at e

-- The edges or the colours are used up.
pub color_used_up : (ends : List ℕ) (s : State) (ks cs : List ℕ) (i : ℕ) → i ≡ min (length ks) (length cs) → all_colored ends s (drop i ks) (drop i cs) ≡ s
color_used_up ends s ks cs i e = elim (dec_lt i (length ks)) [
  | yes h ↦ sym (color_short ends s ks cs i _ refl h (omega arith))
  | no h ↦ sym (color_end ends s ks cs i _ refl (omega arith))
]

-- ---- what each function leaves, by what its calls left

pub enter_both : (ends T T' T'' : List ℕ) (k c x a b : ℕ) → a ≡ get_or ends (2 * k) 0 → b ≡ get_or ends (2 * k + 1) 0 → T' ≡ entered T a c x → T'' ≡ entered T' b c x
    → T'' ≡ entered_at_ends ends T k c x
unfolding entered_at_ends first_end second_end
enter_both ends T T' T'' k c x a b p q r s = rw (s, r, q, p)

pub uncolor_leaves : (ends l T l' T' : List ℕ) (k c : ℕ) → c ≡ color_of l k → T' ≡ entered_at_ends ends T k c no_edge → l' ≡ set l k no_color
    → state l' T' ≡ uncolored ends (state l T) k
unfolding uncolored
uncolor_leaves ends l T l' T' k c p q r = rw (q, r, p)

pub color_leaves : (ends l T l' T' : List ℕ) (k c : ℕ) → T' ≡ entered_at_ends ends T k c k → l' ≡ set l k c → state l' T' ≡ colored ends (state l T) k c
unfolding colored
color_leaves ends l T l' T' k c q r = rw (q, r)

pub repaint_leaves : (ends : List ℕ) (s s' s'' : State) (ks cs : List ℕ) → s' ≡ all_uncolored ends s ks → s'' ≡ all_colored ends s' ks cs
    → s'' ≡ repainted ends s ks cs
unfolding repainted
repaint_leaves ends s s' s'' ks cs p q = rw (q, p)

-- The edge table stays the table of the working list when an edge loses or takes a colour.

-- ---- the edge of a colour

-- The one edge that has the colour is found.
edge_of_color_only : (l : List ℕ) (c : ℕ) (ks : List ℕ) (k : ℕ) → Mem k ks → color_of l k ≡ c → ((j : ℕ) → Mem j ks → color_of l j ≡ c → j ≡ k)
    → edge_of_color l c ks ≡ some k
edge_of_color_only l c ks k p e only = elim (some_or_none (edge_of_color l c ks)) [
  | inl q ↦ absurd (edge_of_color_none l c ks q k p e)
  | inr (j, q) ↦ let r = edge_of_color_some l c ks j q in q ∙ ap some (only j r.0 r.1)
]

-- Two lists in which the same of these edges have the colour.
edge_of_color_same : (l l' : List ℕ) (c : ℕ) (ks : List ℕ) → ((j : ℕ) → Mem j ks → (color_of l j ≡ color_of l' j) ⊎ ((color_of l j ≢ c) × (color_of l' j ≢ c)))
    → edge_of_color l c ks ≡ edge_of_color l' c ks
unfolding edge_of_color
edge_of_color_same l l' c ks same = first_that_same (λ k. eqb (color_of l k) c) (λ k. eqb (color_of l' k) c) ks (λ j p. elim (same j p) [
  | inl e ↦ ap (λ (x : ℕ). eqb x c) e
  | inr (a, b) ↦ ne_eqb (color_of l j) c a ∙ sym (ne_eqb (color_of l' j) c b)
])

-- ---- one edge changes

dec_place : (ends : List ℕ) (k v a c : ℕ) → (At ends k v × (a ≡ c)) ⊎ (At ends k v × (a ≡ c) → ⊥)
dec_place ends k v a c = go (dec_eq (first_end ends k) v) (dec_eq (second_end ends k) v) (dec_eq a c)
  where
    go : (first_end ends k ≡ v) ⊎ (first_end ends k ≢ v) → (second_end ends k ≡ v) ⊎ (second_end ends k ≢ v) → (a ≡ c) ⊎ (a ≢ c)
        → (At ends k v × (a ≡ c)) ⊎ (At ends k v × (a ≡ c) → ⊥)
    go p q (inr n) = inr (λ z. n z.1)
    go p q (inl e) = elim p [
      | inl f ↦ inl (inl f, e)
      | inr f ↦ elim q [ inl s ↦ inl (inr s, e) | inr s ↦ inr (λ z. elim z.0 [ inl y ↦ f y | inr y ↦ s y ]) ]
    ]

module _ (ends : List ℕ) (m : ℕ) (l T : List ℕ) (L : TableOf ends m l T) (k : ℕ) (h : k < m) where
  -- The table after a change of edge k, with entry x for colour c at its ends.
  abbrev changed : ℕ → ℕ → List ℕ
  changed c x = entered_at_ends ends T k c x

  changed_at : (c x v : ℕ) → c < 576 → At ends k v → entry_at (changed c x) v c ≡ x
  changed_at c x v b = let n = L.fits.nodes k h in entry_at_end ends T k c x v n (omega (arith, L.table_size, n.0)) (omega (arith, L.table_size, n.1))

  changed_size : (c x : ℕ) → length (changed c x) ≡ 294912
  changed_size c x = length_entered_at_ends ends T k c x ∙ L.table_size

  -- Elsewhere the table says the same, and edge k has the colour neither before nor after.
  changed_elsewhere : (c x y v a : ℕ) → a ≢ no_color → (At ends k v × (a ≡ c) → ⊥) → (At ends k v → (color_of l k ≢ a) × (y ≢ a))
      → table_edge (changed c x) v a ≡ edge_of_color (set l k y) a (edges_at ends m v)
  unfolding table_edge
  changed_elsewhere c x y v a n out unlike =
      ap edge_of_entry (entry_elsewhere ends T k c x v a out) ∙ L.says v a n ∙ edge_of_color_same l (set l k y) a (edges_at ends m v) same
    where
      same : (j : ℕ) → Mem j (edges_at ends m v) → (color_of l j ≡ color_of (set l k y) j) ⊎ ((color_of l j ≢ a) × (color_of (set l k y) j ≢ a))
      same j p = elim (dec_eq j k) [
        | inl z ↦ let u = unlike (subst (λ (i : ℕ). At ends i v) z (edge_at ends m v j p).1) in
            inr (rw z u.0, rw (z, color_set_same l k y (omega (arith, L.work_size))) u.1)
        | inr z ↦ inl (sym (color_set_other l k y j z))
      ]

  uncolored_table : TableOf ends m (set l k no_color) (changed (color_of l k) no_edge)
  uncolored_table = record {
    fits = L.fits;
    work_size = rw (length-set l k no_color) L.work_size;
    table_size = changed_size (color_of l k) no_edge;
    proper = uncolor_edge (color_of l) (color_of l') k L.proper (color_set_other l k no_color) bare;
    colors = λ j b colored. elim (dec_eq j k) [
      | inl z ↦ absurd (colored (rw z bare))
      | inr z ↦ rw (color_set_other l k no_color j z) (L.colors j b (λ e. colored (color_set_other l k no_color j z ∙ e)))
    ];
    says = says;
  }
    where
      l' : List ℕ
      l' = set l k no_color

      bare : color_of l' k ≡ no_color
      bare = color_set_same l k no_color (omega (arith, L.work_size))

      none_left : (v a : ℕ) → a ≢ no_color → At ends k v → a ≡ color_of l k → (j : ℕ) → Mem j (edges_at ends m v) → color_of l' j ≢ a
      none_left v a n at e j p z = elim (dec_eq j k) [
        | inl q ↦ n (cc (bare, ap (color_of l') q))
        | inr q ↦ q (L.proper j k v (edge_at ends m v j p) (h, at) (λ y. n (cc (color_set_other l k no_color j q))) (cc (color_set_other l k no_color j q)))
      ]

      says : (v a : ℕ) → a ≢ no_color → table_edge (changed (color_of l k) no_edge) v a ≡ edge_of_color l' a (edges_at ends m v)
      says v a n = elim (dec_place ends k v a (color_of l k)) [
        | inl (at, e) ↦ sym (reads_none (changed (color_of l k) no_edge) v a no_edge
            (sym (rw e (changed_at (color_of l k) no_edge v (L.colors k h (λ z. n (e ∙ z))) at))) refl)
            ∙ sym (none_has_none l' a (edges_at ends m v) (none_left v a n at e))
        | inr out ↦ changed_elsewhere (color_of l k) no_edge no_color v a n out (λ at. (λ z. out (at, sym z), λ z. n (sym z)))
      ]

  -- Edge k loses its colour, if it has one.
  uncolor_keeps : TableOf ends m (set l k no_color) (uncolored ends (state l T) k).table
  unfolding uncolored
  uncolor_keeps = uncolored_table

  module _ (c : ℕ) (b : c < 576) (bare : color_of l k ≡ no_color) (free : (v : ℕ) → Incident ends m k v → Free (Incident ends m) (color_of l) v c) where
    abbrev l'' : List ℕ
    l'' = set l k c

    has : color_of l'' k ≡ c
    has = color_set_same l k c (omega (arith, L.work_size))

    colored_says : (v a : ℕ) → a ≢ no_color → table_edge (changed c k) v a ≡ edge_of_color l'' a (edges_at ends m v)
    colored_says v a n = elim (dec_place ends k v a c) [
      | inl (at, e) ↦ rw e (sym (reads_edge (changed c k) v c k (sym (changed_at c k v b at)) (λ z. omega (arith, L.fits.edges)))
          ∙ sym (edge_of_color_only l'' c (edges_at ends m v) k (at_edge ends m v k h at) has (only v at)))
      | inr out ↦ changed_elsewhere c k c v a n out (λ at. (λ z. n (sym z ∙ bare), λ z. out (at, sym z)))
    ]
      where
        only : (v : ℕ) → At ends k v → (j : ℕ) → Mem j (edges_at ends m v) → color_of l'' j ≡ c → j ≡ k
        only v at j p z = elim (dec_eq j k) [ inl q ↦ q | inr q ↦ absurd (free v (h, at) j (edge_at ends m v j p) (sym (color_set_other l k c j q) ∙ z)) ]

    -- Edge k, which has none, takes a colour that is free at its ends.
    pub color_keeps : TableOf ends m (set l k c) (colored ends (state l T) k c).table
    unfolding colored
    color_keeps = record {
      fits = L.fits;
      work_size = rw (length-set l k c) L.work_size;
      table_size = changed_size c k;
      proper = color_edge (color_of l) (color_of l'') k L.proper (color_set_other l k c) (λ v a. rw has (free v a));
      colors = λ j i colored. elim (dec_eq j k) [
        | inl z ↦ rw (z, has) b
        | inr z ↦ rw (color_set_other l k c j z) (L.colors j i (λ e. colored (color_set_other l k c j z ∙ e)))
      ];
      says = colored_says;
    }

-- Edges take new colours in place of their own: the edge table stays the table of the working list.

-- ---- the working list

-- The list in which these edges have no colour.
unfoldable cleared : List ℕ → List ℕ → List ℕ
cleared l [] = l
cleared l (k ∷ ks) = cleared (set l k no_color) ks

cleared_other : (l ks : List ℕ) (j : ℕ) → (Mem j ks → ⊥) → color_of (cleared l ks) j ≡ color_of l j
unfolding cleared
cleared_other l [] j n = refl
cleared_other l (k ∷ ks) j n = cleared_other (set l k no_color) ks j (λ p. n (inr p)) ∙ color_set_other l k no_color j (λ p. n (inl p))

cleared_same : (l ks : List ℕ) (j : ℕ) → Mem j ks → j < length l → color_of (cleared l ks) j ≡ no_color
unfolding cleared
cleared_same l [] j p h = elim p [ ]
cleared_same l (k ∷ ks) j p h = elim (dec_mem j ks) [
  | inl q ↦ cleared_same (set l k no_color) ks j q (rw (length-set l k no_color) h)
  | inr n ↦ cleared_other (set l k no_color) ks j n ∙ (elim p [ inl z ↦ rw z (color_set_same l k no_color (rw z at h)) | inr q ↦ absurd (n q) ])
]

cleared_set : (l ks : List ℕ) (k c : ℕ) → (Mem k ks → ⊥) → set (cleared l ks) k c ≡ cleared (set l k c) ks
unfolding cleared
cleared_set l [] k c n = refl
cleared_set l (j ∷ ks) k c n =
    cleared_set (set l j no_color) ks k c (λ p. n (inr p)) ∙ ap (λ (x : List ℕ). cleared x ks) (set_comm l j k no_color c (λ z. n (inl (sym z))))

-- The old colours do not matter.
store_cleared : (l ks cs : List ℕ) → length ks ≡ length cs → Nodup ks → store (cleared l ks) ks cs ≡ store l ks cs
unfolding store cleared
store_cleared l [] cs e u = refl
store_cleared l (k ∷ ks) [] e u = let z : ⊥ = omega arith in absurd z
store_cleared l (k ∷ ks) (c ∷ cs) e u =
    ap (λ (x : List ℕ). store x ks cs) (cleared_set (set l k no_color) ks k c u.0 ∙ ap (λ (x : List ℕ). cleared x ks) (set-set l k no_color c))
    ∙ store_cleared (set l k c) ks cs (omega arith) u.1

module _ (ends : List ℕ) where
  uncolored_work : (s : State) (ks : List ℕ) → (all_uncolored ends s ks).work ≡ cleared s.work ks
  unfolding all_uncolored uncolored cleared
  uncolored_work s [] = refl
  uncolored_work s (k ∷ ks) = uncolored_work (uncolored ends s k) ks

  colored_work : (s : State) (ks cs : List ℕ) → (all_colored ends s ks cs).work ≡ store s.work ks cs
  unfolding all_colored colored store
  colored_work s [] cs = refl
  colored_work s (k ∷ ks) [] = refl
  colored_work s (k ∷ ks) (c ∷ cs) = colored_work (colored ends s k c) ks cs

  repainted_work : (s : State) (ks cs : List ℕ) → length ks ≡ length cs → Nodup ks → (repainted ends s ks cs).work ≡ store s.work ks cs
  unfolding repainted
  repainted_work s ks cs e u = colored_work (all_uncolored ends s ks) ks cs ∙ (rw (uncolored_work s ks) (store_cleared s.work ks cs e u))

-- ---- the table

module _ (ends : List ℕ) (m : ℕ) where
  uncolored_keeps : (s : State) (ks : List ℕ) → HasTable ends m s → ((k : ℕ) → Mem k ks → k < m) → HasTable ends m (all_uncolored ends s ks)
  unfolding all_uncolored uncolored
  uncolored_keeps s [] L inside = L
  uncolored_keeps s (k ∷ ks) L inside =
      uncolored_keeps (uncolored ends s k) ks (uncolor_keeps ends m s.work s.table L k (inside k (inl refl))) (λ j p. inside j (inr p))

  -- In between, each edge has no colour or the one that it has once all are stored. So a new colour is free at its edge's ends: no other
  -- edge there has it once all are stored.
  new_color_free : (l : List ℕ) (k c : ℕ) (ks cs : List ℕ) → m ≤ length l → Repaintable ends m l (k ∷ ks) (c ∷ cs)
      → ((j : ℕ) → Mem j (k ∷ ks) → color_of l j ≡ no_color) → (v : ℕ) → Incident ends m k v → Free (Incident ends m) (color_of l) v c
  unfolding store
  new_color_free l k c ks cs size R bare v a j b e = elim (dec_mem j (k ∷ ks)) [
    | inl p ↦ color_c (sym e ∙ bare j p)
    | inr n ↦ n (inl (R.proper j k v b a (λ z. color_c (sym (at_j n) ∙ z)) (at_j n ∙ sym at_k)))
  ]
    where
      color_c : c ≢ no_color
      color_c z = omega (arith, R.colors c (inl refl))

      at_k : color_of (store (set l k c) ks cs) k ≡ c
      at_k = color_store_other (set l k c) ks cs k R.nodup.0 ∙ color_set_same l k c (omega (arith, R.inside k (inl refl)))

      at_j : (Mem j (k ∷ ks) → ⊥) → color_of (store (set l k c) ks cs) j ≡ c
      at_j n = color_store_other l (k ∷ ks) (c ∷ cs) j n ∙ e

  colored_keeps : (s : State) (ks cs : List ℕ) → HasTable ends m s → Repaintable ends m s.work ks cs → ((j : ℕ) → Mem j ks → color_of s.work j ≡ no_color)
      → HasTable ends m (all_colored ends s ks cs)
  unfolding all_colored colored store
  colored_keeps s [] cs L R bare = L
  colored_keeps s (k ∷ ks) [] L R bare = L
  colored_keeps s (k ∷ ks) (c ∷ cs) L R bare =
      colored_keeps (colored ends s k c) ks cs
      (color_keeps ends m s.work s.table L k (R.inside k (inl refl)) c (R.colors c (inl refl)) (bare k (inl refl))
      (new_color_free s.work k c ks cs L.work_size R bare))
      (record {
        nodup = R.nodup.1;
        inside = λ j p. R.inside j (inr p);
        same_length = let e : suc (length ks) ≡ suc (length cs) = R.same_length in omega arith;
        colors = λ b p. R.colors b (inr p);
        proper = R.proper;
      })
      (λ j p. color_set_other s.work k c j (λ z. R.nodup.0 (subst (λ (x : ℕ). Mem x ks) z p)) ∙ bare j (inr p))

  module _ (l T ks cs : List ℕ) (L : TableOf ends m l T) (R : Repaintable ends m l ks cs) where
    repainted_table : HasTable ends m (repainted ends (state l T) ks cs)
    unfolding repainted
    repainted_table = colored_keeps s' ks cs (uncolored_keeps (state l T) ks L R.inside)
        (record {
          nodup = R.nodup;
          inside = R.inside;
          same_length = R.same_length;
          colors = R.colors;
          proper = rw (w, store_cleared l ks cs R.same_length R.nodup) R.proper;
        })
        (λ j p. rw w (cleared_same l ks j p (omega (arith, L.work_size, R.inside j p))))
      where
        s' : State
        s' = all_uncolored ends (state l T) ks

        w : s'.work ≡ cleared l ks
        w = uncolored_work ends (state l T) ks

    repaint_keeps : TableOf ends m (store l ks cs) (repainted ends (state l T) ks cs).table
    repaint_keeps = rw (repainted_work ends (state l T) ks cs R.same_length R.nodup) at repainted_table

    -- The same, as the code leaves the two lists.
    pub repaint_done : (l' T' : List ℕ) → state l' T' ≡ repainted ends (state l T) ks cs → (l' ≡ store l ks cs) × TableOf ends m l' T'
    repaint_done l' T' e =
        leaves_table ends m (store l ks cs) l' T' (repainted ends (state l T) ks cs) e (repainted_work ends (state l T) ks cs R.same_length R.nodup) repaint_keeps

-- ---- the exchange of a path and the rotation of a fan are each one repaint

module _ (ends : List ℕ) (m : ℕ) (l T : List ℕ) (L : TableOf ends m l T) (l' T' : List ℕ) where
  pub exchange_done : (c d : ℕ) (ks : List ℕ) → Repaintable ends m l ks (exchanged_colors l c d ks)
      → state l' T' ≡ repainted ends (state l T) ks (exchanged_colors l c d ks) → (l' ≡ exchange l c d ks) × TableOf ends m l' T'
  unfolding exchange
  exchange_done c d ks R e = repaint_done ends m l T ks (exchanged_colors l c d ks) L R l' T' e

-- ---- what each is given

exchange_repaintable : (ends : List ℕ) (m : ℕ) (l : List ℕ) (u c d : ℕ) (ks : List ℕ)
    → Exchanged (Incident ends m) (far_end ends) (color_of l) (color_of (exchange l c d ks)) u c d ks → Nodup ks → ((k : ℕ) → Mem k ks → k < m) → c < 576 → d < 576
    → Repaintable ends m l ks (exchanged_colors l c d ks)
unfolding exchange
exchange_repaintable ends m l u c d ks E nodup inside low-c low-d = record {
  nodup = nodup;
  inside = inside;
  same_length = simp length-map;
  colors = λ b p.
      let r = map_mem (λ (k : ℕ). swap c d (color_of l k)) b ks p in
      rw (← r.2) (elim (path_edge E.path r.0 r.1).1 [ inl z ↦ rw (z, swap_right c d) low-c | inr z ↦ rw (z, swap_left c d) low-d ]);
  proper = exchange_proper E;
}

rotate_repaintable : (ends : List ℕ) (m : ℕ) (l T : List ℕ) (k : ℕ) (ks : List ℕ) (d : ℕ) → TableOf ends m l T
    → Proper (Incident ends m) (color_of (rotate_places l k ks d)) → Nodup (k ∷ ks) → ((j : ℕ) → Mem j (k ∷ ks) → j < m) → ((j : ℕ) → Mem j ks → color_of l j ≢ no_color) → d < 576
    → Repaintable ends m l (k ∷ ks) (rotated_colors l ks d)
unfolding rotate_places
rotate_repaintable ends m l T k ks d L proper nodup inside colored low-d = record {
  nodup = nodup;
  inside = inside;
  same_length = simp (length-append, length-map) (omega arith);
  colors = λ b p. elim (mem_append b (map (color_of l) ks) (d ∷ []) p) [
    | inl q ↦ let r = map_mem (color_of l) b ks q in rw (← r.2) (L.colors r.0 (inside r.0 (inr r.1)) (colored r.0 r.1))
    | inr q ↦ elim q [ inl z ↦ rw z low-d | inr z ↦ absurd z ]
  ];
  proper = proper;
}

-- In the step of edge k: the exchange, then the rotation in the list that it leaves.
module _ (ends : List ℕ) (m n : ℕ) (Ok : ℕ → Type 0) (low : (c : ℕ) → Ok c → c < 576) (l : List ℕ) (k : ℕ) (h : k < m) (F : FoundLaws ends m n Ok l k (step_parts ends m n l k)) where
  pub step_exchange : let f = step_parts ends m n l k in Repaintable ends m l f.path (exchanged_colors l f.c f.d f.path)
  unfolding step_parts
  step_exchange =
      let f = step_parts ends m n l k in
      exchange_repaintable ends m l (first_end ends k) f.c f.d f.path F.exchange F.path_nodup (λ j p. omega (arith, F.path_edges j p))
      (low f.c F.allowed_c) (low f.d F.allowed_d)

  -- The fan's places are coloured: they come before k, and the exchange takes no edge's colour away.
  pub step_rotation : (T : List ℕ) → TableOf ends m (step_parts ends m n l k).exchanged T → Invariant ends m Ok k l → Invariant ends m Ok (suc k) (step ends m n l k)
      → let f = step_parts ends m n l k in Repaintable ends m f.exchanged (k ∷ f.places) (rotated_colors f.exchanged f.places f.d)
  step_rotation T L I J =
      let f = step_parts ends m n l k in
      let before : (j : ℕ) → Mem j f.places → j < k = λ j p. (F.fan_edges j (F.places_in_fan j p)).0 in
      rotate_repaintable ends m f.exchanged T k f.places f.d L (rw (step_form ends m n l k) at J.proper) F.places_nodup
      (λ j p. elim p [ inl z ↦ omega arith | inr q ↦ omega (arith, before j q) ])
      (λ j p. exchange_colored F.exchange j (λ z. omega (arith, low (color_of l j) (I.done j (before j p)))))
      (low f.d F.allowed_d)
