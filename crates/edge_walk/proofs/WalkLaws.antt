-- What a step of a walk tells.
use Prim.Native.Nat.{ℕ, ◌+◌, ◌≤◌, ◌<◌}
use mathlib.Core.Path.{◌≡◌, sym, ap, ◌∙◌}
use mathlib.Core.List.{List}
use mathlib.Core.Bool.{true, false}
use native.Mathlib.Omega.{arith}
use lib.ListN.{length, get_or}
use lib.Dec.{ltb}
use borrow.Author.Tests.{ltb-true, ltb-false}
use Rattle.lists.proofs.Tests.{by-test}
use Rattle.graph.specs.declared.EdgeIndex.{EdgeIndex}
use Rattle.std.specs.Prelude.{Option, Some, None}
use Rattle.graph.specs.Edges.{far_end}
use Rattle.edge_walk.specs.Walk.{step_at}

step_inside : (l : List ℕ) (at : ℕ) → ltb at (length l) ≡ true → step_at l at ≡ Some (record { 0 = get_or l at 0 }, at + 1)
unfolding step_at
step_inside l at t = simp t

step_outside : (l : List ℕ) (at : ℕ) → ltb at (length l) ≡ false → step_at l at ≡ None
unfolding step_at
step_outside l at t = simp t

pub step_end : (l : List ℕ) (at : ℕ) (r : Option (EdgeIndex × ℕ)) → r ≡ step_at l at → r ≡ None → length l ≤ at
step_end l at r p q = by-test (ltb at (length l))
    (λ t. let e = step_inside l at t in let z : ◌≡◌ {A = ℕ} 0 1 = cc in absurd (omega arith))
    (ltb-false at (length l))

pub step_edge : (l : List ℕ) (at : ℕ) (r : Option (EdgeIndex × ℕ)) (k : EdgeIndex) (next : ℕ) → r ≡ step_at l at → r ≡ Some (k, next) → (at < length l) × (k.0 ≡ get_or l at 0) × (next ≡ at + 1)
step_edge l at r k next p q = by-test (ltb at (length l))
    (λ t. let e = sym q ∙ (p ∙ step_inside l at t) in
    let i : ◌≡◌ {A = EdgeIndex × ℕ} (k, next) (record { 0 = get_or l at 0 }, at + 1) = cc in
    (ltb-true at (length l) t, ap (λ (x : EdgeIndex × ℕ). x.0.0) i, ap (λ (x : EdgeIndex × ℕ). x.1) i))
    (λ t. let e = step_outside l at t in let z : ◌≡◌ {A = ℕ} 0 1 = cc in absurd (omega arith))

-- The same for its far end at a node, as `far_end` answers it.
pub step_far : (ends l : List ℕ) (v at : ℕ) (r : Option (EdgeIndex × ℕ)) (k : EdgeIndex) (next w : ℕ) → r ≡ step_at l at → r ≡ Some (k, next) → w ≡ far_end ends k.0 v → (at < length l) × (w ≡ far_end ends (get_or l at 0) v) × (next ≡ at + 1)
step_far ends l v at r k next w p q f =
    let s = step_edge l at r k next p q in
    (s.0, f ∙ ap (λ (j : ℕ). far_end ends j v) s.1, s.2)
