-- Laws of noting: an item notes a colour, and so do those around an item, at its first node and then at its second.
use Prim.Native.Nat.{ℕ, suc, ◌+◌, ◌-◌, ◌≤◌, ◌<◌}
use mathlib.Core.Path.{◌≡◌, refl, sym, ap, ◌∙◌, subst}
use mathlib.Core.Logic.{inl, inr, ◌≢◌}
use mathlib.Core.List.{List, [], ◌∷◌, ◌++◌, map}
use native.Mathlib.Omega.{arith}
use lib.ListN.{length, get_or, take, drop, set, take-append-drop}
use lib.Seq.{drop-cons, take-length, get_or-set_same, get_or-set_other}
use Rattle.lists.proofs.MemberLaws.{map_append, count_append, count_here, count_there, count_none, mem_get_or}
use Rattle.lists.proofs.Tests.{dec_eq}
use Rattle.lists.specs.Different.{count}
use Rattle.graph.specs.Color.{no_color}
use Rattle.graph.specs.Colored.{color_of}
use Rattle.graph.proofs.ColorLaws.{color_read}
use Rattle.items.specs.declared.Kind.{Kind}
use Rattle.items.specs.Items.{across_of, first_node, second_node, neighbors_of, Tabled}
use Rattle.color_marks.specs.Marks.{across_all, along, around}
use Rattle.color_marks.proofs.MarksLaws.{across_more, around_one, around_two}
use Rattle.saturation.specs.Counts.{NotedTimes, Noted, NotesRoom}
use Rattle.lists.specs.Member.{Mem}
use Rattle.graph.specs.Edges.{edge_count, first_end, second_end, edges_at, neighbors}
use Rattle.graph.proofs.EdgeLaws.{edge_at}
use Rattle.graph.proofs.NeighborLaws.{neighbors_far_ends}
use Rattle.graph.specs.Stretch.{stretch}
use Rattle.line_list.proofs.LineNeighborLaws.{line_neighbor_times, line_neighbor_times_loop}
use Rattle.greedy.proofs.TurnLaws.{edge_neighbors_lem}
use Rattle.items.specs.declared.Kind.TheVariants.{Nodes, Edges}
use Rattle.items.proofs.ItemsLaws.{first_inside, second_inside, across_inside}

-- ---- noting

pub none_noted : (s w m : ℕ) → NotedTimes 0 s w m s w m
none_noted s w m = record { waits = omega arith; not_yet = λ z. (refl, refl); old = λ z. (refl, z); new = λ z y. absurd (y refl) }

more_noted : (a b s₀ w₀ m₀ s w m s' w' m' : ℕ) → NotedTimes a s₀ w₀ m₀ s w m → NotedTimes b s w m s' w' m' → NotedTimes (a + b) s₀ w₀ m₀ s' w' m'
more_noted a b s₀ w₀ m₀ s w m s' w' m' p q = record {
  waits = omega (arith, p.waits, q.waits);
  not_yet = λ z. let x = p.not_yet (omega arith) in let y = q.not_yet (omega arith) in (y.0 ∙ x.0, y.1 ∙ x.1);
  old = λ z. let x = p.old z in let y = q.old x.1 in (y.0 ∙ x.0, y.1);
  new = λ z n. elim (dec_eq a 0) [
    | inl e ↦ let x = p.not_yet e in let y = q.new (x.1 ∙ z) (λ e'. n (omega arith)) in (y.0 ∙ ap suc x.0, y.1)
    | inr e ↦ let x = p.new z e in let y = q.old x.1 in (y.0 ∙ x.0, y.1)
  ];
}

noted_none : (colors saturations waiting marks : List ℕ) → Noted colors [] saturations waiting marks saturations waiting marks
noted_none colors saturations waiting marks = record { at = λ u h e. rw (count_none u [] (λ p. p)) (none_noted _ _ _); kept = λ u n. (refl, refl) }

noted_more : (colors us ws s₀ w₀ m₀ s w m s' w' m' : List ℕ) → Noted colors us s₀ w₀ m₀ s w m → Noted colors ws s w m s' w' m' → Noted colors (us ++ ws) s₀ w₀ m₀ s' w' m'
noted_more colors us ws s₀ w₀ m₀ s w m s' w' m' p q = record {
  at = λ u h e. rw (count_append u us ws) (more_noted _ _ _ _ _ _ _ _ _ _ _ (p.at u h e) (q.at u h e));
  kept = λ u n. let x = p.kept u n in let y = q.kept u n in (y.0 ∙ x.0, y.1 ∙ x.1);
}

-- ---- one item notes the colour

module _ (colors s w m : List ℕ) (u : ℕ) where
  other : (x : ℕ) → x ≢ u → (s' w' m' : List ℕ) → get_or s' x 0 ≡ get_or s x 0 → get_or w' x 0 ≡ get_or w x 0 → get_or m' x 0 ≡ get_or m x 0
      → NotedTimes (count x (u ∷ [])) (get_or s x 0) (get_or w x 0) (get_or m x 0) (get_or s' x 0) (get_or w' x 0) (get_or m' x 0)
  other x n s' w' m' a b d = rw (count_there x u [] n, count_none x [] (λ p. p), a, b, d) (none_noted _ _ _)

  -- It has a colour: its counts do not matter.
  pub note_colored : u < length colors → (get_or colors u 0 ≡ no_color → ⊥) → Noted colors (u ∷ []) s w m s w m
  note_colored b n = record { at = λ x h e. other x (λ p. n (color_read colors u 0 b ∙ (ap (color_of colors) (sym p) ∙ e))) s w m refl refl refl; kept = λ x y. (refl, refl) }

  -- An item with a colour is another.
  differs : u < length colors → get_or colors u 0 ≡ no_color → (x : ℕ) → color_of colors x ≢ no_color → x ≢ u
  differs b e x n p = n (ap (color_of colors) p ∙ (sym (color_read colors u 0 b) ∙ e))

  -- The colour is not new to it.
  pub note_old : u < length colors → get_or colors u 0 ≡ no_color → u < length w → 0 < get_or w u 0 → (get_or m u 0 ≡ 0 → ⊥) → Noted colors (u ∷ []) s w m s (set w u (get_or w u 0 - 1)) m
  note_old within bare b h k = record {
    at = λ x i e. elim (dec_eq x u) [
      | inl p ↦ rw (p, count_here u [], count_none u [] (λ q. q), get_or-set_same w u (get_or w u 0 - 1) 0 b)
          (record { waits = omega arith; not_yet = λ z. absurd (let y : ⊥ = omega arith in y); old = λ z. (refl, z); new = λ z y. absurd (k z) })
      | inr p ↦ other x p s (set w u (get_or w u 0 - 1)) m refl (get_or-set_other w u x _ 0 p) refl
    ];
    kept = λ x n. (refl, get_or-set_other w u x (get_or w u 0 - 1) 0 (differs within bare x n));
  }

  -- The colour is new to it.
  pub note_new : u < length colors → get_or colors u 0 ≡ no_color → u < length s → u < length w → u < length m → 0 < get_or w u 0 → get_or m u 0 ≡ 0 → Noted colors (u ∷ []) s w m (set s u (get_or s u 0 + 1)) (set w u (get_or w u 0 - 1)) (set m u 1)
  note_new within bare a b d h k = record {
    at = λ x i e. elim (dec_eq x u) [
      | inl p ↦ rw (p, count_here u [], count_none u [] (λ q. q), get_or-set_same s u (get_or s u 0 + 1) 0 a, get_or-set_same w u (get_or w u 0 - 1) 0 b, get_or-set_same m u 1 0 d)
          (record { waits = omega arith; not_yet = λ z. absurd (let y : ⊥ = omega arith in y); old = λ z. absurd (z k); new = λ z y. (omega arith, λ q. omega arith) })
      | inr p ↦ other x p (set s u (get_or s u 0 + 1)) (set w u (get_or w u 0 - 1)) (set m u 1) (get_or-set_other s u x _ 0 p) (get_or-set_other w u x _ 0 p) (get_or-set_other m u x 1 0 p)
    ];
    kept = λ x n. let o = differs within bare x n in (get_or-set_other s u x (get_or s u 0 + 1) 0 o, get_or-set_other w u x (get_or w u 0 - 1) 0 o);
  }

-- ---- one edge after the other

pub room_first : (colors us ws s w m : List ℕ) → NotesRoom colors (us ++ ws) s w m → NotesRoom colors us s w m
room_first colors us ws s w m room = record { at = λ u h e. let r = room.at u h e in (omega (arith, r.0, count_append u us ws), r.1) }

-- What is left of the room after the first of them.
room_left : (colors us ws s₀ w₀ m₀ s w m : List ℕ) → NotesRoom colors (us ++ ws) s₀ w₀ m₀ → Noted colors us s₀ w₀ m₀ s w m → NotesRoom colors ws s w m
room_left colors us ws s₀ w₀ m₀ s w m room noted = record {
  at = λ u h e.
      let r = room.at u h e in
      let t = noted.at u h e in (
        omega (arith, r.0, t.waits, count_append u us ws),
        λ z. elim (dec_eq (get_or m₀ u 0) 0) [
          | inl q ↦ elim (dec_eq (count u us) 0) [ inl k ↦ omega (arith, r.1 q, (t.not_yet k).0) | inr k ↦ absurd ((t.new q k).1 z) ]
          | inr q ↦ absurd ((t.old q).1 z)
        ],
      );
}

pub notes_none : (kind : Kind) (ends colors edges : List ℕ) (v : ℕ) (s w m : List ℕ) → Noted colors (across_all kind ends v (take 0 edges)) s w m s w m
unfolding across_all
notes_none kind ends colors edges v s w m = noted_none colors s w m

module _ (kind : Kind) (ends colors edges : List ℕ) (v : ℕ) (s₀ w₀ m₀ s w m : List ℕ) (i : ℕ) where
  -- The items of the edges passed, and of those left.
  abbrev passed : List ℕ
  passed = across_all kind ends v (take i edges)

  across_cut : i < length edges → across_all kind ends v edges ≡ passed ++ across_of kind ends (get_or edges i 0) v ∷ across_all kind ends v (drop (suc i) edges)
  unfolding across_all
  across_cut h = ap (map (λ (k : ℕ). across_of kind ends k v)) (sym (take-append-drop i edges) ∙ ap (λ (l : List ℕ). take i edges ++ l) (drop-cons edges i 0 h)) ∙ map_append (λ (k : ℕ). across_of kind ends k v) (take i edges) (get_or edges i 0 ∷ drop (suc i) edges)

  -- The next item has room.
  pub notes_room : NotesRoom colors (across_all kind ends v edges) s₀ w₀ m₀ → Noted colors passed s₀ w₀ m₀ s w m → i < length edges
      → (u : ℕ) → u ≡ across_of kind ends (get_or edges i 0) v → u < length colors → get_or colors u 0 ≡ no_color → (0 < get_or w u 0) × (get_or m u 0 ≡ 0 → get_or s u 0 < 65535)
  notes_room room noted h u p b z =
      let us = across_all kind ends v (drop (suc i) edges) in
      let left : NotesRoom colors (u ∷ us) s w m = rw p (room_left colors passed (across_of kind ends (get_or edges i 0) v ∷ us) s₀ w₀ m₀ s w m (rw (across_cut h) at room) noted) in
      let r = left.at u b (sym (color_read colors u 0 b) ∙ z) in
      (omega (arith, r.0, count_here u us), r.1)

  pub notes_more : (s' w' m' : List ℕ) → Noted colors passed s₀ w₀ m₀ s w m → i < length edges
      → (u : ℕ) → u ≡ across_of kind ends (get_or edges i 0) v → Noted colors (u ∷ []) s w m s' w' m' → Noted colors (across_all kind ends v (take (i + 1) edges)) s₀ w₀ m₀ s' w' m'
  notes_more s' w' m' p h u e q = rw (across_more kind ends v edges i h, sym e) (noted_more colors passed (u ∷ []) s₀ w₀ m₀ s w m s' w' m' p q)

  pub notes_all : Noted colors passed s₀ w₀ m₀ s w m → i ≤ length edges → length edges ≤ i → Noted colors (across_all kind ends v edges) s₀ w₀ m₀ s w m
  notes_all p h k = let e : i ≡ length edges = omega arith in rw (e, take-length edges) at p

-- The items around an item note its colour, those at its first node and then those at its second.

-- ---- as the code goes

module _ (kind : Kind) (ends starts entries : List ℕ) where
  module _ (n items : ℕ) (tabled : Tabled kind n ends starts entries items) (v a : ℕ) (inside : v < items) (edges : List ℕ) (at : edges ≡ stretch starts entries a) where
    stretch_inside : a < n → (i : ℕ) → i < length edges → across_of kind ends (get_or edges i 0) a < items
    stretch_inside h i b =
        let r = edge_at ends (edge_count ends) a (get_or edges i 0) (subst (λ (l : List ℕ). Mem (get_or edges i 0) l) (at ∙ tabled.table.row a h) (mem_get_or edges i 0 b)) in
        across_inside kind n ends items tabled.sized (get_or edges i 0) a r.0 r.1

    pub first_across : a ≡ first_node kind ends v → (i : ℕ) → i < length edges → across_of kind ends (get_or edges i 0) a < items
    first_across e = stretch_inside (rw e (first_inside kind n ends items tabled.sized v inside))

    pub second_across : a ≡ second_node kind ends v → (i : ℕ) → i < length edges → across_of kind ends (get_or edges i 0) a < items
    second_across e = stretch_inside (rw e (second_inside kind n ends items tabled.sized v inside))

  module _ (colors : List ℕ) (v a b : ℕ) (p : a ≡ first_node kind ends v) (q : b ≡ second_node kind ends v) (edges : List ℕ) (x : edges ≡ stretch starts entries a) where
    pub around_first : (s w m : List ℕ) → NotesRoom colors (around kind ends starts entries v) s w m → NotesRoom colors (across_all kind ends a edges) s w m
    unfolding along
    around_first s w m room = rw x (elim (dec_eq a b) [
      | inl e ↦ rw (around_one kind ends starts entries v a b p q e) at room
      | inr n ↦ room_first colors (along kind ends starts entries a) (along kind ends starts entries b) s w m (rw (around_two kind ends starts entries v a b p q n) at room)
    ])

    pub one_noted : (s₀ w₀ m₀ s w m : List ℕ) → a ≡ b → Noted colors (across_all kind ends a edges) s₀ w₀ m₀ s w m → Noted colors (around kind ends starts entries v) s₀ w₀ m₀ s w m
    unfolding along
    one_noted s₀ w₀ m₀ s w m e noted = rw (around_one kind ends starts entries v a b p q e, ← x) noted

    module _ (n : a ≡ b → ⊥) (others : List ℕ) (y : others ≡ stretch starts entries b) (s₀ w₀ m₀ s w m : List ℕ) (noted : Noted colors (across_all kind ends a edges) s₀ w₀ m₀ s w m) where
      pub around_second : NotesRoom colors (around kind ends starts entries v) s₀ w₀ m₀ → NotesRoom colors (across_all kind ends b others) s w m
      unfolding along
      around_second room = rw y (room_left colors (along kind ends starts entries a) (along kind ends starts entries b) s₀ w₀ m₀ s w m (rw (around_two kind ends starts entries v a b p q n) at room) (rw x at noted))

      pub both_noted : (s' w' m' : List ℕ) → Noted colors (across_all kind ends b others) s w m s' w' m' → Noted colors (around kind ends starts entries v) s₀ w₀ m₀ s' w' m'
      unfolding along
      both_noted s' w' m' more = rw (around_two kind ends starts entries v a b p q n) (noted_more colors (along kind ends starts entries a) (along kind ends starts entries b) s₀ w₀ m₀ s w m s' w' m' (rw x at noted) (rw y at more))

-- ---- each other item stands there as often as among the neighbours

across_edges : (ends : List ℕ) (w : ℕ) (ks : List ℕ) → across_all Edges ends w ks ≡ ks
unfolding across_all across_of
across_edges ends w [] = refl
across_edges ends w (k ∷ ks) = ap (λ (l : List ℕ). k ∷ l) (across_edges ends w ks)

along_nodes : (n : ℕ) (ends starts entries : List ℕ) (items w : ℕ) → Tabled Nodes n ends starts entries items → w < n → along Nodes ends starts entries w ≡ neighbors ends (edge_count ends) w
unfolding along across_all across_of
along_nodes n ends starts entries items w tabled h = rw (tabled.table.row w h) (sym (neighbors_far_ends ends (edge_count ends) w))

along_edges : (n : ℕ) (ends starts entries : List ℕ) (items w : ℕ) → Tabled Edges n ends starts entries items → w < n → along Edges ends starts entries w ≡ edges_at ends (edge_count ends) w
unfolding along
along_edges n ends starts entries items w tabled h = across_edges ends w (stretch starts entries w) ∙ tabled.table.row w h

pub around_times : (kind : Kind) (n : ℕ) (ends starts entries : List ℕ) (items : ℕ) → Tabled kind n ends starts entries items → (v u : ℕ) → v < items → u ≢ v → count u (around kind ends starts entries v) ≡ count u (neighbors_of kind n ends v)
unfolding first_node second_node neighbors_of
around_times Nodes n ends starts entries items tabled v u h d = ap (count u) (around_one Nodes ends starts entries v v v refl refl refl ∙ along_nodes n ends starts entries items v tabled (omega (arith, tabled.sized.size)))
around_times Edges n ends starts entries items tabled v u h d =
    let b : v < edge_count ends = omega (arith, tabled.sized.size) in
    let first = along_edges n ends starts entries items (first_end ends v) tabled (first_inside Edges n ends items tabled.sized v h) in
    let second = along_edges n ends starts entries items (second_end ends v) tabled (second_inside Edges n ends items tabled.sized v h) in
    rw (edge_neighbors_lem n ends tabled.sized.passed v b) (elim (dec_eq (first_end ends v) (second_end ends v)) [
      | inl e ↦ ap (count u) (around_one Edges ends starts entries v (first_end ends v) (second_end ends v) refl refl e ∙ first) ∙ sym (line_neighbor_times_loop ends (edge_count ends) v b u d e)
      | inr e ↦ ap (count u) (around_two Edges ends starts entries v (first_end ends v) (second_end ends v) refl refl e) ∙ (count_append u (along Edges ends starts entries (first_end ends v)) (along Edges ends starts entries (second_end ends v))
          ∙ omega (arith, ap (count u) first, ap (count u) second, line_neighbor_times ends (edge_count ends) v b u d e))
    ])
