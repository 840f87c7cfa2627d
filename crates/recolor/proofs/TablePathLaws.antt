-- The path of two colours as the edge table gives it, and that a right table gives the definition's.
use Prim.Native.Nat.{ℕ, zero, suc, ◌+◌, ◌-◌, ◌≤◌, ◌<◌}
use mathlib.Core.Path.{◌≡◌, refl, sym, ap, ◌∙◌}
use mathlib.Core.Logic.{inl, inr}
use mathlib.Core.List.{List, [], ◌∷◌}
use mathlib.Core.Option.{none, some}
use mathlib.Core.Bool.{true, false≢true}
use native.Mathlib.Omega.{arith}
use native.Mathlib.Nat.{not-suc-le-zero}
use lib.ListN.{length, set, take}
use Rattle.graph.specs.Edges.{far_end, edges_at}
use Rattle.graph.proofs.EdgeLaws.{edge_at}
use Rattle.vizing.specs.MisraGries.{is_none, edge_of_color, path}
use Rattle.vizing.proofs.DefinitionLaws.{some_or_none, edge_of_color_some}
use Rattle.edge_table.specs.EdgeTable.{option_of, table_edge, is_empty}
use Rattle.std.specs.Prelude.{Option, Some, None}
use Rattle.graph.specs.declared.EdgeIndex.{EdgeIndex}
use Rattle.graph.specs.Table.{over}
use Rattle.recolor.proofs.FrontLaws.{Front, front_start, front_next, front_all, over_front}
use Rattle.recolor.specs.TablePath.{table_path}

module _ (ends T : List ℕ) (fuel v p q : ℕ) where
  path_stops : table_edge T v p ≡ none → table_path ends T (suc fuel) v p q ≡ []
  unfolding table_path
  path_stops e = rw (e, table_path)

  path_goes : (k : ℕ) → table_edge T v p ≡ some k → table_path ends T (suc fuel) v p q ≡ k ∷ table_path ends T fuel (far_end ends k v) q p
  unfolding table_path
  path_goes k e = rw (e, table_path)

-- Where no edge has the first colour there is no path.
pub path_none : (ends T : List ℕ) (fuel v p q : ℕ) → is_empty T v p ≡ true → table_path ends T fuel v p q ≡ []
unfolding table_path is_empty
path_none ends T zero v p q e = refl
path_none ends T (suc fuel) v p q e = elim (some_or_none (table_edge T v p)) [
  | inl z ↦ path_stops ends T fuel v p q z
  | inr (k, z) ↦ absurd (false≢true (sym (ap is_none z) ∙ e))
]

-- A path that ends before its fuel does is the path with more fuel too.
pub path_ended : (ends T : List ℕ) (fuel more v p q : ℕ) → length (table_path ends T fuel v p q) < fuel → fuel ≤ more → table_path ends T more v p q ≡ table_path ends T fuel v p q
path_ended ends T zero more v p q h k = absurd (not-suc-le-zero h)
path_ended ends T (suc fuel) zero v p q h k = absurd (not-suc-le-zero k)
path_ended ends T (suc fuel) (suc more) v p q h k = elim (some_or_none (table_edge T v p)) [
  | inl e ↦ path_stops ends T more v p q e ∙ sym (path_stops ends T fuel v p q e)
  | inr (j, e) ↦
      let goes = path_goes ends T fuel v p q j e in
      path_goes ends T more v p q j e ∙ (ap (λ (l : List ℕ). j ∷ l) (path_ended ends T fuel more (far_end ends j v) q p (omega (arith, ap length goes)) (omega arith)) ∙ sym goes)
]

-- ---- with a right table

-- `Node` tells at which nodes the table is right; every far end is one of them.
module _ (ends : List ℕ) (m : ℕ) (l T : List ℕ) (Node : ℕ → Type 0) (far : (k v : ℕ) → k < m → Node (far_end ends k v)) where
  -- Of colour c the table says the edge that l gives it.
  abbrev SaysEdge : ℕ → Type 0
  SaysEdge c = (v : ℕ) → Node v → table_edge T v c ≡ edge_of_color l c (edges_at ends m v)

  pub table_path_lem : (n v p q : ℕ) → Node v → SaysEdge p → SaysEdge q → table_path ends T n v p q ≡ path ends m n l v p q
  unfolding table_path path
  table_path_lem zero v p q a says-p says-q = refl
  table_path_lem (suc n) v p q a says-p says-q = elim (some_or_none (edge_of_color l p (edges_at ends m v))) [
    | inl e ↦ rw (path_stops ends T n v p q (says-p v a ∙ e), e, path)
    | inr (k, e) ↦
        let b = far k v (edge_at ends m v k (edge_of_color_some l p (edges_at ends m v) k e).0).0 in
        rw (path_goes ends T n v p q k (says-p v a ∙ e), e, path, table_path_lem n (far_end ends k v) q p b says-q says-p)
  ]

-- ---- as the code follows it

path_length : (ends T : List ℕ) (n v p q : ℕ) → length (table_path ends T n v p q) ≤ n
unfolding table_path
path_length ends T zero v p q = omega arith
path_length ends T (suc n) v p q = elim (some_or_none (table_edge T v p)) [
  | inl e ↦ rw (path_stops ends T n v p q e) (omega arith)
  | inr (k, e) ↦ rw (path_goes ends T n v p q k e) (omega (arith, path_length ends T n (far_end ends k v) q p))
]

-- The first len edges of the path R stand in out, and it goes on at v along p, q, p with at most n - len edges.
pub record Following (ends T : List ℕ) (n : ℕ) (R out₀ out : List ℕ) (len v p q : ℕ) : Type 0 where
  pub bound : len ≤ n
  pub front : Front R out₀ out (table_path ends T (n - len) v p q) len

pub follow_start : (ends T : List ℕ) (n : ℕ) (out : List ℕ) (v p q : ℕ) → n ≤ length out → Following ends T n (table_path ends T n v p q) out out 0 v p q
follow_start ends T n out v p q h = let z : n - 0 ≡ n = omega arith in record {
  bound = omega arith;
  front = rw z (front_start (table_path ends T n v p q) out (omega (arith, path_length ends T n v p q)));
}

module _ (ends T : List ℕ) (n : ℕ) (R out₀ out : List ℕ) (len v p q : ℕ) (F : Following ends T n R out₀ out len v p q) where
  followed : table_path ends T (n - len) v p q ≡ [] → (len ≡ length R) × (out ≡ over R out₀)
  followed z = let e = front_all R out₀ out len (rw z at F.front) in (e.1, e.0)

  pub follow_full : n ≤ len → (len ≡ length R) × (out ≡ over R out₀)
  unfolding table_path
  follow_full h = let f : n - len ≡ zero = omega arith in followed (rw f)

  module _ (h : len < n) (answer : Option EdgeIndex) (said : option_of answer ≡ table_edge T v p) where
    abbrev more : n - len ≡ suc (n - (len + 1))
    more = omega arith

    pub follow_none : answer ≡ None → (len ≡ length R) × (out ≡ over R out₀)
    follow_none e = followed (rw more (path_stops ends T (n - (len + 1)) v p q (sym said ∙ ap option_of e)))

    pub follow_edge : (k : EdgeIndex) (w : ℕ) → answer ≡ Some k → w ≡ far_end ends k.0 v → Following ends T n R out₀ (set out len k.0) (len + 1) w q p
    follow_edge k w e f = record {
      bound = omega arith;
      front = front_next R out₀ out (table_path ends T (n - (len + 1)) w q p) len k.0
          (rw f (rw (more, path_goes ends T (n - (len + 1)) v p q k.0 (sym said ∙ ap option_of e)) at F.front));
    }

-- What a caller reads: the path stands at the front of out, which has room for it.
pub path_written : (ends T : List ℕ) (n v p q : ℕ) (out₀ out : List ℕ) (len : ℕ) → (len ≡ length (table_path ends T n v p q)) × (out ≡ over (table_path ends T n v p q) out₀)
    → (take len out ≡ table_path ends T n v p q) × ((len ≡ length (table_path ends T n v p q)) × (len ≤ n))
path_written ends T n v p q out₀ out len e =
    (ap (λ (i : ℕ). take i out) e.0 ∙ over_front (table_path ends T n v p q) out₀ out e.1, (e.0, omega (arith, e.0, path_length ends T n v p q)))
