-- Laws of putting off the neighbours of an item, as the code goes over them: of a node the far ends of its edges, of an edge the parts of the edges at its ends.
use Prim.Native.Nat.{ℕ, suc, ◌≤◌, ◌<◌, zero, ◌+◌, ◌%◌}
use mathlib.Core.Bool.{true, false, Bool}
use mathlib.Core.List.{List, [], ◌∷◌, ◌++◌, reverse, map, append_assoc, append-nil}
use mathlib.Core.Path.{◌≡◌, refl, sym, ap, subst, ◌∙◌}
use native.Mathlib.Omega.{arith}
use Rattle.std.proofs.lemmas.List.{reverse-append}
use lib.ListN.{length, get_or, drop, take}
use lib.Seq.{drop-length, take_all}
use native.Mathlib.Nat.{not-suc-le-zero}
use native.Mathlib.Numerals.{add-one}
use lib.Dec.{eqb, ltb}
use borrow.Author.Tests.{eqb-true}
use Rattle.lists.proofs.Tests.{by-test}
use Rattle.graph.specs.Check.{Passed}
use Rattle.graph.specs.Edges.{edge_count, far_end, first_end, second_end, is_loop, edges_at}
use Rattle.items.specs.declared.Kind.TheVariants.{Nodes, Edges}
use Rattle.items.specs.Items.{neighbors_of}
use Rattle.greedy.specs.IndependentSet.{Lists, put_off, put_off_all}
use Rattle.independent_set.specs.Listing.{ListsHeld}
use Rattle.lists.specs.Member.{Mem}
use Rattle.lists.proofs.MemberLaws.{mem_map, mem_get_or}
use Rattle.graph.proofs.CheckLaws.{passed_inside}
use Rattle.graph.proofs.EdgeLaws.{edge_at, edges_at_nodup}
use Rattle.graph.proofs.NeighborLaws.{neighbors_far_ends, passed_neighbor}
use Rattle.graph.specs.Stretch.{stretch, Table}
use Rattle.line_list.specs.LineNeighbors.{later_at, earlier_at, higher_end, lower_end, line_neighbors}
use Rattle.line_list.proofs.LineNeighborLaws.{loop_neighbors, apart_neighbors}
use Rattle.line_list.proofs.PairLaws.{before_member, after_member}
use Rattle.line_parts.specs.Parts.{part_in, at_turn, part_at}
use Rattle.line_parts.proofs.PartsLaws.{ends_cases}
use Rattle.greedy.proofs.TurnLaws.{edge_neighbors_lem}

-- ---- putting off items in a row

put_off_append : (s : Lists) (xs ys : List ℕ) → put_off_all s (xs ++ ys) ≡ put_off_all (put_off_all s xs) ys
unfolding put_off_all
put_off_append s [] ys = refl
put_off_append s (x ∷ xs) ys = put_off_append (put_off s x) xs ys

pub put_off_none : (s : Lists) → put_off_all s [] ≡ s
unfolding put_off_all
put_off_none s = refl

-- Of the items that are left, which go last first, one is put off.
pub last_off : (s t : Lists) (left rest : List ℕ) (v : ℕ) → left ≡ rest ++ v ∷ [] → t ≡ put_off s v → put_off_all t (reverse rest) ≡ put_off_all s (reverse left)
unfolding put_off_all
last_off s t left rest v e p = rw (e, reverse-append, p)

pub none_left : (s t : Lists) (left : List ℕ) → length left ≡ 0 → put_off_all s (reverse left) ≡ t → s ≡ t
unfolding put_off_all
none_left s t [] z e = e
none_left s t (x ∷ left) z e = absurd (omega arith)

-- The edges of a part go last first: at the start none has been put off.
module _ (m : ℕ) (s : Lists) (listed place next : List ℕ) (len end : ℕ) where
  pub part_start_lem : (edges : List ℕ) → ListsHeld m listed place next len end s → ListsHeld m listed place next len end (put_off_all s (reverse (drop (length edges) edges)))
  unfolding put_off_all
  part_start_lem edges h = rw (drop-length edges) h

-- ---- the neighbours of a node

put_off_one_more : (f : ℕ → ℕ) (s : Lists) (l : List ℕ) (i : ℕ) → i < length l → put_off_all s (map f (take (suc i) l)) ≡ put_off (put_off_all s (map f (take i l))) (f (get_or l i 0))
unfolding put_off_all
put_off_one_more f s [] i h = absurd (not-suc-le-zero h)
put_off_one_more f s (x ∷ l) zero h = refl
put_off_one_more f s (x ∷ l) (suc i) h = put_off_one_more f (put_off s (f x)) l i (omega arith)

pub far_ends_more : (ends edges : List ℕ) (v i far : ℕ) (s t u : Lists) → t ≡ put_off_all s (map (λ (j : ℕ). far_end ends j v) (take i edges)) → i < length edges → far ≡ far_end ends (get_or edges i 0) v → u ≡ put_off t far
    → u ≡ put_off_all s (map (λ (j : ℕ). far_end ends j v) (take (i + 1) edges))
far_ends_more ends edges v i far s t u e h p q = rw (add-one i, put_off_one_more (λ (j : ℕ). far_end ends j v) s edges i h, ← p, ← e) q

module _ (n : ℕ) (ends starts entries edges : List ℕ) (v : ℕ) (passed : Passed n ends) (table : Table ends n starts entries) (less : v < n) (e : edges ≡ stretch starts entries v) where
  edges_same : edges ≡ edges_at ends (edge_count ends) v
  edges_same = e ∙ table.row v less

  pub far_end_below : (i far : ℕ) → i < length edges → far ≡ far_end ends (get_or edges i 0) v → far < n
  far_end_below i far h p =
      passed_neighbor n ends passed v far
      (rw (p, neighbors_far_ends ends (edge_count ends) v, ← edges_same) (mem_map (λ (j : ℕ). far_end ends j v) (get_or edges i 0) edges (mem_get_or edges i 0 h)))

  pub far_ends_done : (i : ℕ) (s t : Lists) → length edges ≤ i → t ≡ put_off_all s (map (λ (j : ℕ). far_end ends j v) (take i edges)) → t ≡ put_off_all s (neighbors_of Nodes n ends v)
  unfolding neighbors_of
  far_ends_done i s t h p = rw (neighbors_far_ends ends (edge_count ends) v, ← edges_same) (rw (take_all i edges h) at p)

-- ---- the parts of the edges that share an end with an edge

-- The parts of the turns below one, each last first.
unfoldable pub parts_to : (ℕ → List ℕ) → List ℕ → ℕ → ℕ → List ℕ
parts_to at ends k zero = []
parts_to at ends k (suc turn) = parts_to at ends k turn ++ reverse (part_at at ends k turn)

pub parts_none : (s : Lists) (at : ℕ → List ℕ) (ends : List ℕ) (k : ℕ) → s ≡ put_off_all s (parts_to at ends k 0)
unfolding parts_to put_off_all
parts_none s at ends k = refl

pub parts_more : (s t u : Lists) (at : ℕ → List ℕ) (ends : List ℕ) (k turn : ℕ) (part : List ℕ) → part ≡ part_at at ends k turn → t ≡ put_off_all s (parts_to at ends k turn) → u ≡ put_off_all t (reverse part)
    → u ≡ put_off_all s (parts_to at ends k (turn + 1))
unfolding parts_to
parts_more s t u at ends k turn part e p q = rw (add-one turn, ← e, put_off_append s (parts_to at ends k turn) (reverse part), ← p) q

loop_higher : (ends : List ℕ) (k : ℕ) → is_loop ends k ≡ true → higher_end ends k ≡ first_end ends k
unfolding is_loop
loop_higher ends k t = ends_cases (λ (a b : ℕ). a ≡ first_end ends k) ends k (sym (eqb-true (first_end ends k) (second_end ends k) t)) refl

part_member : (later : Bool) (ends : List ℕ) (k v j : ℕ) → Mem j (part_in later k (edges_at ends (edge_count ends) v)) → j < edge_count ends
unfolding part_in
part_member true ends k v j p = (edge_at ends (edge_count ends) v j (after_member k j (edges_at ends (edge_count ends) v) (edges_at_nodup ends (edge_count ends) v) p).0).0
part_member false ends k v j p = (edge_at ends (edge_count ends) v j (before_member k j (edges_at ends (edge_count ends) v) p).0).0

-- Over a table the edges at a node are those of the graph.
module _ (n : ℕ) (ends starts entries : List ℕ) (k : ℕ) (passed : Passed n ends) (table : Table ends n starts entries) (less : k < edge_count ends) where
  row_higher : stretch starts entries (higher_end ends k) ≡ edges_at ends (edge_count ends) (higher_end ends k)
  row_higher = table.row (higher_end ends k) (ends_cases (λ (x y : ℕ). x < n) ends k (passed_inside n ends passed k less).1 (passed_inside n ends passed k less).0)

  row_lower : stretch starts entries (lower_end ends k) ≡ edges_at ends (edge_count ends) (lower_end ends k)
  row_lower = table.row (lower_end ends k) (ends_cases (λ (x y : ℕ). y < n) ends k (passed_inside n ends passed k less).0 (passed_inside n ends passed k less).1)

  pub part_below : (turn : ℕ) (part : List ℕ) → part ≡ part_at (stretch starts entries) ends k turn → (j : ℕ) → Mem j part → j < edge_count ends
  unfolding part_at at_turn
  part_below turn part e j m =
      let p : Mem j (part_at (stretch starts entries) ends k turn) = subst (Mem j) e m in
      by-test (eqb (turn % 2) 0)
      (λ t. part_member (ltb turn 2) ends k (higher_end ends k) j (rw (t, row_higher) at p))
      (λ t. by-test (is_loop ends k)
      (λ u. absurd (rw (t, u) at p))
      (λ u. part_member (ltb turn 2) ends k (lower_end ends k) j (rw (t, u, row_lower) at p)))

  parts_line : parts_to (stretch starts entries) ends k 4 ≡ line_neighbors ends (edge_count ends) k
  unfolding parts_to part_at at_turn part_in later_at earlier_at
  parts_line = rw (row_higher, row_lower) (by-test (is_loop ends k)
      (λ t. rw (t, loop_higher ends k t) (simp append-nil (sym (loop_neighbors ends (edge_count ends) k t))))
      (λ t. rw t (simp append_assoc (simp append_assoc at (sym (apart_neighbors ends (edge_count ends) k t))))))

  pub parts_done : (s t : Lists) → t ≡ put_off_all s (parts_to (stretch starts entries) ends k 4) → t ≡ put_off_all s (neighbors_of Edges n ends k)
  unfolding neighbors_of
  parts_done s t p = p ∙ ap (put_off_all s) (parts_line ∙ sym (edge_neighbors_lem n ends passed k less))
