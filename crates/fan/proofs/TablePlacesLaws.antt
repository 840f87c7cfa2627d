-- The fan's places up to w as the edge table gives them, and that a right table gives those of the theory.
use Prim.Native.Nat.{ℕ, suc, ◌+◌, ◌≤◌, ◌<◌}
use mathlib.Core.Path.{◌≡◌, refl, ap, ◌∙◌}
use mathlib.Core.Logic.{inl, inr}
use mathlib.Core.List.{List, [], ◌∷◌}
use mathlib.Core.Bool.{true, false}
use native.Mathlib.Omega.{arith}
use native.Mathlib.Numerals.{add-one}
use lib.ListN.{length, get_or, take, drop, drop_of_length-le}
use lib.Seq.{drop-cons}
use Rattle.lists.proofs.Tests.{by-test}
use Rattle.lists.specs.Member.{Mem}
use Rattle.graph.specs.Edges.{far_end, edges_at}
use Rattle.vizing.specs.MisraGries.{is_free}
use Rattle.vizing.proofs.StepForm.{places_to}
use Rattle.edge_table.specs.EdgeTable.{is_empty}
use Rattle.fan.specs.TablePlaces.{table_places}

module _ (ends T : List ℕ) (d u x k : ℕ) (ks : List ℕ) where
  places_stop : is_empty T x d ≡ true → table_places ends T d u x (k ∷ ks) ≡ []
  unfolding table_places
  places_stop e = rw (e, table_places)

  places_go : is_empty T x d ≡ false → table_places ends T d u x (k ∷ ks) ≡ k ∷ table_places ends T d u (far_end ends k u) ks
  unfolding table_places
  places_go e = rw (e, table_places)

-- ---- with a right table

-- `Node` tells at which nodes the table is right for colour d; the far ends of the fan's edges are some of them.
module _ (ends : List ℕ) (m : ℕ) (l T : List ℕ) (Node : ℕ → Type 0) (d : ℕ) (says : (v : ℕ) → Node v → is_empty T v d ≡ is_free l (edges_at ends m v) d) (u : ℕ) where
  pub table_places_lem : (x : ℕ) (ks : List ℕ) → Node x → ((k : ℕ) → Mem k ks → Node (far_end ends k u)) → table_places ends T d u x ks ≡ places_to ends m l d u x ks
  unfolding table_places places_to
  table_places_lem x [] a far = refl
  table_places_lem x (k ∷ ks) a far =
      by-test (is_free l (edges_at ends m x) d)
      (λ t. rw (places_stop ends T d u x k ks (says x a ∙ t), t, places_to))
      (λ t. rw (places_go ends T d u x k ks (says x a ∙ t), t, places_to, table_places_lem (far_end ends k u) ks (far k (inl refl)) (λ j p. far j (inr p))))

-- ---- the fan's first places

places_front : (ends T : List ℕ) (d u x : ℕ) (ks : List ℕ)
    → (take (length (table_places ends T d u x ks)) ks ≡ table_places ends T d u x ks) × (length (table_places ends T d u x ks) ≤ length ks)
unfolding table_places
places_front ends T d u x [] = (refl, omega arith)
places_front ends T d u x (k ∷ ks) =
    by-test (is_empty T x d)
    (λ t. rw (places_stop ends T d u x k ks t) (refl, omega arith))
    (λ t. let r = places_front ends T d u (far_end ends k u) ks in rw (places_go ends T d u x k ks t) (ap (λ (js : List ℕ). k ∷ js) r.0, omega (arith, r.1)))

-- The first r places of a fan k ∷ ks, where r is the answer of `places_to`.
pub places_taken : (ends T : List ℕ) (d u x k : ℕ) (ks fan : List ℕ) (r : ℕ) → fan ≡ k ∷ ks → r ≡ 1 + length (table_places ends T d u x (drop 1 fan))
    → (take r fan ≡ k ∷ table_places ends T d u x ks) × (r ≤ length fan)
places_taken ends T d u x k ks fan r e f =
    let p = places_front ends T d u x ks in
    let z : r ≡ suc (length (table_places ends T d u x ks)) = omega (arith, rw e at f) in
    rw (z, e) (ap (λ (js : List ℕ). k ∷ js) p.0, omega (arith, p.1))

-- ---- as the code counts them

module _ (ends T : List ℕ) (d u x : ℕ) (fan : List ℕ) (w : ℕ) where
  pub places_found : w < length fan → is_empty T x d ≡ true → length (table_places ends T d u x (drop w fan)) ≡ 0
  places_found h p = rw (drop-cons fan w 0 h, places_stop ends T d u x (get_or fan w 0) (drop (suc w) fan) p)

  pub places_next : w < length fan → is_empty T x d ≡ false
      → length (table_places ends T d u x (drop w fan)) ≡ 1 + length (table_places ends T d u (far_end ends (get_or fan w 0) u) (drop (w + 1) fan))
  places_next h p = rw (drop-cons fan w 0 h, places_go ends T d u x (get_or fan w 0) (drop (suc w) fan) p, add-one w) (omega arith)

  pub places_end : length fan ≤ w → length (table_places ends T d u x (drop w fan)) ≡ 0
  unfolding table_places
  places_end h = rw (drop_of_length-le fan {i = w} h)
