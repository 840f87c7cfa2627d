-- Laws of walks and of their parity.
use Prim.Native.Nat.{ℕ, zero, suc, ◌+◌, ◌<◌}
use mathlib.Core.Path.{◌≡◌, refl}
use mathlib.Core.Bool.{Bool, true, false, not, xor}
use native.Mathlib.Nat.{zero-add, suc-add}
use mathlib.Core.Logic.{inl}
use mathlib.Core.List.{List}
use native.Mathlib.Omega.{arith}
use Rattle.two_color.specs.Walk.{is_odd, Walk, stay, along}
use Rattle.graph.specs.Edges.{first_end, second_end, far_end, At}
use Rattle.graph.proofs.EdgeLaws.{far_first, far_at_lem, far_far}

-- ---- parity

pub false_xor : (b : Bool) → xor false b ≡ b
unfolding xor
false_xor true = refl
false_xor false = refl

pub xor_false : (a : Bool) → xor a false ≡ a
unfolding xor
xor_false true = refl
xor_false false = refl

pub not_xor : (a b : Bool) → xor (not a) b ≡ not (xor a b)
unfolding xor
not_xor true true = refl
not_xor true false = refl
not_xor false true = refl
not_xor false false = refl

pub xor_not : (a b : Bool) → xor a (not b) ≡ not (xor a b)
unfolding xor
xor_not true true = refl
xor_not true false = refl
xor_not false true = refl
xor_not false false = refl

odd_add : (a b : ℕ) → is_odd (a + b) ≡ xor (is_odd a) (is_odd b)
unfolding is_odd
odd_add zero b = rw (zero-add, false_xor)
odd_add (suc a) b = rw (suc-add, odd_add a b, not_xor)

-- A walk from u to v, of odd length where the test holds, else of even length.
abbrev pub WalkOf : List ℕ → ℕ → ℕ → ℕ → Bool → Type 0
WalkOf ends m u v odd = (l : ℕ) × Walk ends m u v l × (is_odd l ≡ odd)

module _ {ends : List ℕ} {m : ℕ} where
  -- ---- walks put together, turned round, among more edges

  walk_append : {u v w a b : ℕ} → Walk ends m u v a → Walk ends m v w b → Walk ends m u w (a + b)
  walk_append stay q = rw zero-add q
  walk_append (along k h p r) q = rw suc-add (along k h p (walk_append r q))

  walk_last : {u v l : ℕ} (k : ℕ) → k < m → At ends k v → Walk ends m u v l → Walk ends m u (far_end ends k v) (suc l)
  walk_last k h p stay = along k h p stay
  walk_last k h p (along j g q r) = along j g q (walk_last k h p r)

  walk_reverse : {u v l : ℕ} → Walk ends m u v l → Walk ends m v u l
  walk_reverse stay = stay
  walk_reverse {u} (along k h p r) = rw (far_far ends k u p) at (walk_last k h (far_at_lem ends k u p) (walk_reverse r))

  pub walk_widen : {u v l : ℕ} → Walk ends m u v l → Walk ends (suc m) u v l
  walk_widen stay = stay
  walk_widen (along k h p r) = along k (omega arith) p (walk_widen r)

  -- ---- one edge

  walk_far : (k v : ℕ) → k < m → At ends k v → Walk ends m v (far_end ends k v) 1
  walk_far k v h p = along k h p stay

  pub walk_first : (k : ℕ) → k < m → Walk ends m (first_end ends k) (second_end ends k) 1
  walk_first k h = rw (far_first ends k (first_end ends k) refl) at (walk_far k (first_end ends k) h (inl refl))

  pub walk_second : (k : ℕ) → k < m → Walk ends m (second_end ends k) (first_end ends k) 1
  walk_second k h = walk_reverse (walk_first k h)

  -- ---- the same, by whether the length is odd

  pub of_append : {u v w : ℕ} {a b : Bool} → WalkOf ends m u v a → WalkOf ends m v w b → WalkOf ends m u w (xor a b)
  of_append (k, p, e) (l, q, f) = (k + l, walk_append p q, rw (odd_add k l, e, f))

  pub of_reverse : {u v : ℕ} {a : Bool} → WalkOf ends m u v a → WalkOf ends m v u a
  of_reverse (l, p, e) = (l, walk_reverse p, e)

  pub of_widen : {u v : ℕ} {a : Bool} → WalkOf ends m u v a → WalkOf ends (suc m) u v a
  of_widen (l, p, e) = (l, walk_widen p, e)

  pub of_edge : {u v : ℕ} → Walk ends m u v 1 → WalkOf ends m u v true
  unfolding is_odd
  of_edge p = (1, p, refl)
