-- Laws of what specs/Items defines.
use Prim.Native.Nat.{ℕ, ◌+◌, ◌-◌, ◌*◌, ◌≤◌, ◌<◌}
use mathlib.Core.Path.{◌≡◌, refl, sym, ap, subst, ◌∙◌}
use mathlib.Core.Logic.{◌⊎◌, inl, inr, ◌≢◌}
use mathlib.Core.List.{List, ◌∷◌, ◌++◌}
use native.Mathlib.Omega.{arith}
use lib.ListN.{length, get_or, drop, length-drop}
use lib.Seq.{length-take-le}
use lib.Dec.{ltb, leb}
use borrow.Author.Tests.{leb-true, eq-eqb, ne_eqb}
use Rattle.lists.proofs.Tests.{by-test, dec_eq}
use Rattle.lists.specs.Member.{Mem}
use Rattle.graph.proofs.CheckLaws.{passed_inside}
use Rattle.graph.specs.Edges.{edge_count, first_end, second_end, far_end, edges_at, degree, neighbors, At}
use Rattle.graph.proofs.EdgeLaws.{at_edge}
use Rattle.graph.specs.Stretch.{bounds, stretch}
use Rattle.graph.proofs.NeighborLaws.{neighbor_edge, edge_neighbor, passed_neighbor, length_neighbors}
use Rattle.line_list.proofs.LineNeighborLaws.{line_neighbor_member, line_neighbor_count, line_neighbor_count_loop}
use Rattle.greedy.specs.Greedy.{Neighborhood}
use Rattle.graph.specs.Color.{no_color}
use Rattle.graph.specs.Colored.{color_of, smallest_free_at}
use Rattle.greedy.proofs.TurnLaws.{node_neighborhood, edge_neighborhood, edge_neighbors_lem, sharing_neighbor}
use Rattle.smallest_color.proofs.MarksLaws.{smallest_color_node, smallest_color_edge}
use Rattle.items.specs.declared.Kind.{Kind}
use Rattle.items.specs.declared.Kind.TheVariants.{Nodes, Edges}
use Rattle.items.specs.Items.{first_node, second_node, across_of, own_of, neighbors_of, count_at, neighbor_count, free_color, Sized, Tabled}

-- ---- a graph that passed

pub items_few : (kind : Kind) (n : ℕ) (ends : List ℕ) (items : ℕ) → Sized kind n ends items → items ≤ 4096
items_few Nodes n ends items sized = omega (arith, sized.size, sized.passed.nodes)
items_few Edges n ends items sized = omega (arith, sized.size, sized.passed.edges)

pub first_inside : (kind : Kind) (n : ℕ) (ends : List ℕ) (items : ℕ) → Sized kind n ends items → (v : ℕ) → v < items → first_node kind ends v < n
unfolding first_node
first_inside Nodes n ends items sized v h = omega (arith, sized.size)
first_inside Edges n ends items sized v h = (passed_inside n ends sized.passed v (omega (arith, sized.size))).0

pub second_inside : (kind : Kind) (n : ℕ) (ends : List ℕ) (items : ℕ) → Sized kind n ends items → (v : ℕ) → v < items → second_node kind ends v < n
unfolding second_node
second_inside Nodes n ends items sized v h = omega (arith, sized.size)
second_inside Edges n ends items sized v h = (passed_inside n ends sized.passed v (omega (arith, sized.size))).1

-- An edge leads from its ends to items.
pub across_inside : (kind : Kind) (n : ℕ) (ends : List ℕ) (items : ℕ) → Sized kind n ends items → (k w : ℕ) → k < edge_count ends → At ends k w → across_of kind ends k w < items
unfolding across_of
across_inside Nodes n ends items sized k w h p = rw sized.size (passed_neighbor n ends sized.passed w (far_end ends k w) (edge_neighbor ends (edge_count ends) w k h p))
across_inside Edges n ends items sized k w h p = omega (arith, sized.size)

pub neighborhood : (kind : Kind) (n : ℕ) (ends : List ℕ) (items : ℕ) → Sized kind n ends items → Neighborhood (neighbors_of kind n ends) items
unfolding neighbors_of
neighborhood Nodes n ends items sized = rw sized.size (node_neighborhood n ends sized.passed)
neighborhood Edges n ends items sized = rw sized.size (edge_neighborhood n ends sized.passed)

-- An item has fewer neighbours than a count can tell.
pub neighbors_few : (kind : Kind) (n : ℕ) (ends starts entries : List ℕ) (items : ℕ) → Tabled kind n ends starts entries items → (v x : ℕ) → v < items → x ≡ length (neighbors_of kind n ends v) → x < 65536
neighbors_few kind n ends starts entries items t v x h e = omega (arith, (neighborhood kind n ends items t.sized).few v h)

-- ---- an item's neighbours are those to which the edges at its nodes lead

-- w is a node of item v.
abbrev pub NodeOf : Kind → List ℕ → ℕ → ℕ → Type 0
NodeOf kind ends v w = (first_node kind ends v ≡ w) ⊎ (second_node kind ends v ≡ w)

-- Edge k leads from a node of item v to item u.
pub record Leading (kind : Kind) (ends : List ℕ) (v u : ℕ) : Type 0 where
  pub edge : ℕ
  pub node : ℕ
  pub inside : edge < edge_count ends
  pub of_item : NodeOf kind ends v node
  pub at : At ends edge node
  pub to : across_of kind ends edge node ≡ u

pub neighbor_leading : (kind : Kind) (n : ℕ) (ends : List ℕ) (items : ℕ) → Sized kind n ends items → (v u : ℕ) → v < items → Mem u (neighbors_of kind n ends v) → Leading kind ends v u
unfolding neighbors_of first_node second_node across_of
neighbor_leading Nodes n ends items sized v u h p =
    let r = neighbor_edge ends (edge_count ends) v u p in
    record { edge = r.0; node = v; inside = r.1; of_item = inl refl; at = r.2; to = r.3 }
neighbor_leading Edges n ends items sized v u h p =
    let e = edge_neighbors_lem n ends sized.passed v (omega (arith, sized.size)) in
    let r = line_neighbor_member ends (edge_count ends) v u (rw e at p) in
    record { edge = u; node = r.2.0; inside = r.0; of_item = r.2.1; at = r.2.2; to = refl }

pub leading_neighbor : (kind : Kind) (n : ℕ) (ends : List ℕ) (items : ℕ) → Sized kind n ends items → (v u : ℕ) → v < items → u ≢ v → Leading kind ends v u → Mem u (neighbors_of kind n ends v)
unfolding neighbors_of first_node second_node across_of
leading_neighbor Nodes n ends items sized v u h d l =
    let e : l.node ≡ v = elim l.of_item [ inl p ↦ sym p | inr p ↦ sym p ] in
    subst (λ (x : ℕ). Mem x (neighbors ends (edge_count ends) v)) (ap (far_end ends l.edge) (sym e) ∙ l.to) (edge_neighbor ends (edge_count ends) v l.edge l.inside (subst (λ (w : ℕ). At ends l.edge w) e l.at))
leading_neighbor Edges n ends items sized v u h d l =
    sharing_neighbor n ends sized.passed v u l.node (omega (arith, sized.size)) (subst (λ (x : ℕ). x < edge_count ends) l.to l.inside) (λ e. d (sym e)) l.of_item (subst (λ (x : ℕ). At ends x l.node) l.to l.at)

-- ---- how many

stretch_short : (starts entries : List ℕ) (v : ℕ) → length (stretch starts entries v) ≤ length entries
unfolding stretch bounds
stretch_short starts entries v =
    let from = get_or starts v 0 in
    let to = get_or starts (v + 1) 0 in
    by-test (ltb (v + 1) (length starts))
    (λ p. by-test (leb from to)
    (λ q. by-test (leb to (length entries))
    (λ t. let h = leb-true to (length entries) t in rw (p, q, t) (omega (arith, length-take-le (to - from) (drop from entries) (omega (arith, length-drop from entries, leb-true from to q, h)), h)))
    (λ t. rw (p, q, t) (omega arith)))
    (λ q. rw (p, q) (omega arith)))
    (λ p. rw p (omega arith))

-- The edges at two nodes are not too many to count.
pub counts_fit : (kind : Kind) (starts entries : List ℕ) (a b r s : ℕ) → length entries * 2 < 9223372036854775808
    → r ≡ count_at kind starts entries a → s ≡ count_at kind starts entries b → r + s < 18446744073709551616
unfolding count_at
counts_fit kind starts entries a b r s few x y = omega (arith, stretch_short starts entries a, stretch_short starts entries b)

-- An edge stands among the edges at each of its ends.
own_at : (ends : List ℕ) (v a : ℕ) → v < edge_count ends → At ends v a → 1 ≤ degree ends (edge_count ends) a
unfolding degree
own_at ends v a h p = member_length v (edges_at ends (edge_count ends) a) (at_edge ends (edge_count ends) a v h p)
  where
    member_length : (k : ℕ) (ks : List ℕ) → Mem k ks → 1 ≤ length ks
    member_length k mathlib.Core.List.[] q = elim q [ ]
    member_length k (j ∷ ks) q = omega arith

module _ (n : ℕ) (ends starts entries : List ℕ) (items : ℕ) where
  -- As many edges stand at the nodes of an item as the table has there.
  module _ (kind : Kind) (t : Tabled kind n ends starts entries items) (v : ℕ) (h : v < items) where
    at_first : length (stretch starts entries (first_node kind ends v)) ≡ degree ends (edge_count ends) (first_node kind ends v)
    unfolding degree
    at_first = ap length (t.table.row (first_node kind ends v) (first_inside kind n ends items t.sized v h))

    at_second : length (stretch starts entries (second_node kind ends v)) ≡ degree ends (edge_count ends) (second_node kind ends v)
    unfolding degree
    at_second = ap length (t.table.row (second_node kind ends v) (second_inside kind n ends items t.sized v h))

  -- The neighbours of an item of a graph that passed the checks, whose two nodes are one,
  neighbors_one : (kind : Kind) → Tabled kind n ends starts entries items → (v : ℕ) → v < items → first_node kind ends v ≡ second_node kind ends v
      → count_at kind starts entries (first_node kind ends v) ≡ length (neighbors_of kind n ends v)
  unfolding count_at own_of first_node second_node neighbors_of
  neighbors_one Nodes t v h e = omega (arith, at_first Nodes t v h, length_neighbors ends (edge_count ends) v)
  neighbors_one Edges t v h e =
      let inside : v < edge_count ends = omega (arith, t.sized.size) in
      omega (arith, at_first Edges t v h, ap length (edge_neighbors_lem n ends t.sized.passed v inside), line_neighbor_count_loop ends (edge_count ends) v inside e)

  -- and of one with two nodes.
  neighbors_two : (kind : Kind) → Tabled kind n ends starts entries items → (v : ℕ) → v < items → first_node kind ends v ≢ second_node kind ends v
      → count_at kind starts entries (first_node kind ends v) + count_at kind starts entries (second_node kind ends v) ≡ length (neighbors_of kind n ends v)
  unfolding count_at own_of first_node second_node neighbors_of
  neighbors_two Nodes t v h d = absurd (d refl)
  neighbors_two Edges t v h d =
      let inside : v < edge_count ends = omega (arith, t.sized.size) in
      omega (
        arith,
        own_at ends v (first_end ends v) inside (inl refl),
        own_at ends v (second_end ends v) inside (inr refl),
        at_first Edges t v h,
        at_second Edges t v h,
        ap length (edge_neighbors_lem n ends t.sized.passed v inside),
        line_neighbor_count ends (edge_count ends) v inside d,
      )

  -- With a graph's own table the neighbours of each item are counted.
  pub neighbors_counted : (kind : Kind) → Tabled kind n ends starts entries items → (v : ℕ) → v < items → neighbor_count kind ends starts entries v ≡ length (neighbors_of kind n ends v)
  unfolding neighbor_count
  neighbors_counted kind t v h = elim (dec_eq (first_node kind ends v) (second_node kind ends v)) [
    | inl e ↦ rw (eq-eqb (first_node kind ends v) (second_node kind ends v) e) (neighbors_one kind t v h e)
    | inr d ↦ rw (ne_eqb (first_node kind ends v) (second_node kind ends v) d) (neighbors_two kind t v h d)
  ]

-- ---- the smallest colour that no neighbour has

-- With a graph's own table an item without a colour finds the smallest that no neighbour has. A coloured edge finds its own at its ends as well.
pub free_smallest : (kind : Kind) (n : ℕ) (ends starts entries colors : List ℕ) → Tabled kind n ends starts entries (length colors) → (v r : ℕ) → v < length colors → color_of colors v ≡ no_color
    → r ≡ free_color kind ends starts entries colors v → r ≡ smallest_free_at colors (neighbors_of kind n ends v)
unfolding free_color neighbors_of
free_smallest Nodes n ends starts entries colors t v r h bare e = smallest_color_node n ends starts entries colors v r t.sized.passed t.table (omega (arith, t.sized.size)) e
free_smallest Edges n ends starts entries colors t v r h bare e = smallest_color_edge n ends starts entries colors v r t.sized.passed t.table (omega (arith, t.sized.size)) bare e
