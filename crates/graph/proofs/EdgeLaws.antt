-- Laws of ends and incidence order: which edges stand at a node, that each stands once, far ends, degrees.
use Prim.Native.Nat.{◌*◌, ℕ, zero, suc, ◌+◌, ◌≤◌, ◌<◌}
use mathlib.Core.Path.{◌≡◌, refl, sym, ◌∙◌}
use mathlib.Core.Logic.{◌⊎◌, inl, inr, ◌≢◌}
use mathlib.Core.List.{List, [], ◌∷◌, ◌++◌}
use mathlib.Core.Bool.{Bool, true, false, not, cond, false≢true}
use native.Mathlib.Omega.{arith}
use native.Mathlib.Nat.{not-suc-le-zero}
use lib.ListN.{get_or, length, length-append}
use lib.Dec.{eqb}
use borrow.Author.Tests.{eq-eqb, ne_eqb, eqb-true, eqb-false, not-true}
use Rattle.lists.proofs.Tests.{by-test, dec_eq, and_true}
use Rattle.lists.specs.Member.{Mem, Nodup}
use Rattle.lists.proofs.MemberLaws.{mem_append, mem_append_left, mem_append_right, nodup_append}
use Rattle.graph.specs.Edges.{first_end, second_end, is_loop, far_end, keep, second_at, first_edges, second_edges, edges_at, degree, At}
-- No name of it is used: the rows are to be checked before the laws, so that a wrong definition is refused for what it gives.
use Rattle.graph.specs.Examples

-- ---- far ends

pub far_first : (ends : List ℕ) (k v : ℕ) → first_end ends k ≡ v → far_end ends k v ≡ second_end ends k
unfolding far_end
far_first ends k v p = simp (eq-eqb _ _ p)

pub far_second : (ends : List ℕ) (k v : ℕ) → second_end ends k ≡ v → far_end ends k v ≡ first_end ends k
unfolding far_end
far_second ends k v p = by-test (eqb (first_end ends k) v) (λ t. simp t (p ∙ sym (eqb-true (first_end ends k) v t))) (λ t. simp t)

pub far_at_lem : (ends : List ℕ) (k v : ℕ) → At ends k v → At ends k (far_end ends k v)
far_at_lem ends k v (inl p) = inr (sym (far_first ends k v p))
far_at_lem ends k v (inr p) = inl (sym (far_second ends k v p))

pub far_far : (ends : List ℕ) (k v : ℕ) → At ends k v → far_end ends k (far_end ends k v) ≡ v
far_far ends k v (inl p) = far_second ends k (far_end ends k v) (sym (far_first ends k v p)) ∙ p
far_far ends k v (inr p) = far_first ends k (far_end ends k v) (sym (far_second ends k v p)) ∙ p

-- An end of an edge at v is v or the far end.
pub two_ends : (ends : List ℕ) (k v w : ℕ) → At ends k v → At ends k w → (w ≡ v) ⊎ (w ≡ far_end ends k v)
two_ends ends k v w (inl p) (inl q) = inl (sym q ∙ p)
two_ends ends k v w (inl p) (inr q) = inr (sym q ∙ sym (far_first ends k v p))
two_ends ends k v w (inr p) (inl q) = inr (sym q ∙ sym (far_second ends k v p))
two_ends ends k v w (inr p) (inr q) = inl (sym q ∙ p)

-- As the code reads the ends: a is the first, b the second.
pub far_read_second : (ends : List ℕ) (k v a b : ℕ) → a ≡ get_or ends (2 * k) 0 → a ≡ v → b ≡ get_or ends (2 * k + 1) 0 → b ≡ far_end ends k v
unfolding far_end first_end second_end
far_read_second ends k v a b p q r = simp (eq-eqb (get_or ends (2 * k) 0) v (sym p ∙ q)) r

pub far_read_first : (ends : List ℕ) (k v a : ℕ) → a ≡ get_or ends (2 * k) 0 → (a ≡ v → ⊥) → a ≡ far_end ends k v
unfolding far_end first_end second_end
far_read_first ends k v a p n = simp (ne_eqb (get_or ends (2 * k) 0) v (λ q. n (p ∙ q))) p

-- ---- the second group has no loops

pub second_at_lem : (ends : List ℕ) (k v : ℕ) → second_end ends k ≡ v → first_end ends k ≢ v → second_at ends k v ≡ true
unfolding second_at is_loop
second_at_lem ends k v p n = simp (eq-eqb _ _ p, ne_eqb (first_end ends k) (second_end ends k) (λ q. n (q ∙ p)))

pub second_at_true : (ends : List ℕ) (k v : ℕ) → second_at ends k v ≡ true → (second_end ends k ≡ v) × (first_end ends k ≢ v)
unfolding second_at is_loop
second_at_true ends k v e =
    let r = and_true (eqb (second_end ends k) v) (not (eqb (first_end ends k) (second_end ends k))) e in
    let p = eqb-true (second_end ends k) v r.0 in
    (p, λ q. eqb-false (first_end ends k) (second_end ends k) (not-true _ r.1) (q ∙ sym p))

pub second_at_other : (ends : List ℕ) (k v : ℕ) → (second_end ends k ≡ v → ⊥) → second_at ends k v ≡ false
unfolding second_at
second_at_other ends k v n = simp (ne_eqb _ _ n)

pub loop_not_second : (ends : List ℕ) (k v : ℕ) → first_end ends k ≡ second_end ends k → second_at ends k v ≡ false
loop_not_second ends k v p = by-test (second_at ends k v) (λ t. let r = second_at_true ends k v t in absurd (r.1 (p ∙ r.0))) (λ t. t)

-- ---- one edge more

pub first_more : (ends : List ℕ) (k v : ℕ) → first_end ends k ≡ v → first_edges ends (suc k) v ≡ k ∷ first_edges ends k v
unfolding first_edges
first_more ends k v p = simp (eq-eqb _ _ p)

pub first_same : (ends : List ℕ) (k v : ℕ) → (first_end ends k ≡ v → ⊥) → first_edges ends (suc k) v ≡ first_edges ends k v
unfolding first_edges
first_same ends k v n = simp (ne_eqb _ _ n)

pub second_more : (ends : List ℕ) (k v : ℕ) → second_end ends k ≡ v → first_end ends k ≢ v → second_edges ends (suc k) v ≡ k ∷ second_edges ends k v
unfolding second_edges
second_more ends k v p n = simp (second_at_lem ends k v p n)

pub second_same : (ends : List ℕ) (k v : ℕ) → second_at ends k v ≡ false → second_edges ends (suc k) v ≡ second_edges ends k v
unfolding second_edges
second_same ends k v e = simp e

pub first_none : (ends : List ℕ) (v : ℕ) → first_edges ends 0 v ≡ []
unfolding first_edges
first_none ends v = refl

pub second_none : (ends : List ℕ) (v : ℕ) → second_edges ends 0 v ≡ []
unfolding second_edges
second_none ends v = refl

pub edges_at_groups : (ends : List ℕ) (k v : ℕ) → edges_at ends k v ≡ first_edges ends k v ++ second_edges ends k v
unfolding edges_at
edges_at_groups ends k v = refl

-- 1 where the test holds.
abbrev pub one : Bool → ℕ
one b = cond b 1 0

length_keep : (b : Bool) (k : ℕ) (ks : List ℕ) → length (keep b k ks) ≡ length ks + one b
length_keep true k ks = omega arith
length_keep false k ks = omega arith

length_first : (ends : List ℕ) (k v : ℕ) → length (first_edges ends (suc k) v) ≡ length (first_edges ends k v) + one (eqb (first_end ends k) v)
unfolding first_edges
length_first ends k v = length_keep (eqb (first_end ends k) v) k (first_edges ends k v)

length_second : (ends : List ℕ) (k v : ℕ) → length (second_edges ends (suc k) v) ≡ length (second_edges ends k v) + one (second_at ends k v)
unfolding second_edges
length_second ends k v = length_keep (second_at ends k v) k (second_edges ends k v)

pub degree_groups : (ends : List ℕ) (k v : ℕ) → degree ends k v ≡ length (first_edges ends k v) + length (second_edges ends k v)
unfolding degree edges_at
degree_groups ends k v = length-append (first_edges ends k v) (second_edges ends k v)

pub degree_none : (ends : List ℕ) (v : ℕ) → degree ends 0 v ≡ 0
unfolding degree edges_at first_edges second_edges
degree_none ends v = refl

pub degree_more : (ends : List ℕ) (k v : ℕ) → degree ends (suc k) v ≡ degree ends k v + one (eqb (first_end ends k) v) + one (second_at ends k v)
degree_more ends k v = omega (arith, degree_groups ends (suc k) v, degree_groups ends k v, length_first ends k v, length_second ends k v)

-- The groups grow with the edges.
pub first_grows : (ends : List ℕ) (k m v : ℕ) → k ≤ m → length (first_edges ends k v) ≤ length (first_edges ends m v)
first_grows ends k zero v h = let e : k ≡ 0 = omega arith in rw e (omega arith)
first_grows ends k (suc m) v h = elim (dec_eq k (suc m)) [ inl p ↦ rw p (omega arith) | inr p ↦ omega (arith, first_grows ends k m v (omega arith), length_first ends m v) ]

pub second_grows : (ends : List ℕ) (k m v : ℕ) → k ≤ m → length (second_edges ends k v) ≤ length (second_edges ends m v)
second_grows ends k zero v h = let e : k ≡ 0 = omega arith in rw e (omega arith)
second_grows ends k (suc m) v h = elim (dec_eq k (suc m)) [ inl p ↦ rw p (omega arith) | inr p ↦ omega (arith, second_grows ends k m v (omega arith), length_second ends m v) ]

-- ---- which edges stand at a node, each once

keep_cases : (b : Bool) (k j : ℕ) (ks : List ℕ) → Mem j (keep b k ks) → ((b ≡ true) × (j ≡ k)) ⊎ Mem j ks
keep_cases true k j ks (inl p) = inl (refl, p)
keep_cases true k j ks (inr p) = inr p
keep_cases false k j ks p = inr p

keep_here : (b : Bool) (k : ℕ) (ks : List ℕ) → b ≡ true → Mem k (keep b k ks)
keep_here true k ks e = inl refl
keep_here false k ks e = absurd (false≢true e)

keep_there : (b : Bool) (k j : ℕ) (ks : List ℕ) → Mem j ks → Mem j (keep b k ks)
keep_there true k j ks p = inr p
keep_there false k j ks p = p

keep_nodup : (b : Bool) (k : ℕ) (ks : List ℕ) → (Mem k ks → ⊥) → Nodup ks → Nodup (keep b k ks)
keep_nodup true k ks n u = (n, u)
keep_nodup false k ks n u = u

first_member : (ends : List ℕ) (m v k : ℕ) → Mem k (first_edges ends m v) → (k < m) × (first_end ends k ≡ v)
unfolding first_edges
first_member ends zero v k p = elim p [ ]
first_member ends (suc m) v k p = elim (keep_cases (eqb (first_end ends m) v) m k (first_edges ends m v) p) [
  | inl (t, e) ↦ (omega arith, rw e (eqb-true (first_end ends m) v t))
  | inr q ↦ let r = first_member ends m v k q in (omega (arith, r.0), r.1)
]

second_member : (ends : List ℕ) (m v k : ℕ) → Mem k (second_edges ends m v) → (k < m) × (second_end ends k ≡ v) × (first_end ends k ≢ v)
unfolding second_edges
second_member ends zero v k p = elim p [ ]
second_member ends (suc m) v k p = elim (keep_cases (second_at ends m v) m k (second_edges ends m v) p) [
  | inl (t, e) ↦ let r = second_at_true ends m v t in (omega arith, rw e r.0, rw e r.1)
  | inr q ↦ let r = second_member ends m v k q in (omega (arith, r.0), r.1, r.2)
]

member_first : (ends : List ℕ) (m v k : ℕ) → k < m → first_end ends k ≡ v → Mem k (first_edges ends m v)
unfolding first_edges
member_first ends zero v k h p = absurd (not-suc-le-zero h)
member_first ends (suc m) v k h p = elim (dec_eq k m) [
  | inl e ↦ rw e (keep_here (eqb (first_end ends m) v) m (first_edges ends m v) (eq-eqb _ _ (rw e at p)))
  | inr n ↦ keep_there (eqb (first_end ends m) v) m k (first_edges ends m v) (member_first ends m v k (omega arith) p)
]

member_second : (ends : List ℕ) (m v k : ℕ) → k < m → second_end ends k ≡ v → first_end ends k ≢ v → Mem k (second_edges ends m v)
unfolding second_edges
member_second ends zero v k h p q = absurd (not-suc-le-zero h)
member_second ends (suc m) v k h p q = elim (dec_eq k m) [
  | inl e ↦ rw e (keep_here (second_at ends m v) m (second_edges ends m v) (second_at_lem ends m v (rw e at p) (rw e at q)))
  | inr n ↦ keep_there (second_at ends m v) m k (second_edges ends m v) (member_second ends m v k (omega arith) p q)
]

-- The edges at v are those below m that have v as an end.
pub edge_at : (ends : List ℕ) (m v k : ℕ) → Mem k (edges_at ends m v) → (k < m) × At ends k v
unfolding edges_at
edge_at ends m v k p = elim (mem_append k (first_edges ends m v) (second_edges ends m v) p) [
  | inl q ↦ let r = first_member ends m v k q in (r.0, inl r.1)
  | inr q ↦ let r = second_member ends m v k q in (r.0, inr r.1)
]

pub at_edge : (ends : List ℕ) (m v k : ℕ) → k < m → At ends k v → Mem k (edges_at ends m v)
unfolding edges_at
at_edge ends m v k h (inl p) = mem_append_left k (first_edges ends m v) (second_edges ends m v) (member_first ends m v k h p)
at_edge ends m v k h (inr p) = elim (dec_eq (first_end ends k) v) [
  | inl q ↦ mem_append_left k (first_edges ends m v) (second_edges ends m v) (member_first ends m v k h q)
  | inr n ↦ mem_append_right k (first_edges ends m v) (second_edges ends m v) (member_second ends m v k h p n)
]

first_nodup : (ends : List ℕ) (m v : ℕ) → Nodup (first_edges ends m v)
unfolding first_edges
first_nodup ends zero v = tt
first_nodup ends (suc m) v = keep_nodup (eqb (first_end ends m) v) m (first_edges ends m v) (λ p. omega (arith, (first_member ends m v m p).0)) (first_nodup ends m v)

second_nodup : (ends : List ℕ) (m v : ℕ) → Nodup (second_edges ends m v)
unfolding second_edges
second_nodup ends zero v = tt
second_nodup ends (suc m) v = keep_nodup (second_at ends m v) m (second_edges ends m v) (λ p. omega (arith, (second_member ends m v m p).0)) (second_nodup ends m v)

-- Each edge stands once, a loop too.
pub edges_at_nodup : (ends : List ℕ) (m v : ℕ) → Nodup (edges_at ends m v)
unfolding edges_at
edges_at_nodup ends m v = nodup_append (first_edges ends m v) (second_edges ends m v) (first_nodup ends m v) (second_nodup ends m v) (λ k p q. (second_member ends m v k q).2 (first_member ends m v k p).1)
