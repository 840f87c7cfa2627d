-- Laws of the candidates: each test and search as the code goes on with it.
use Prim.Native.Nat.{ℕ, ◌+◌, ◌≤◌, ◌<◌}
use mathlib.Core.Path.{◌≡◌}
use mathlib.Core.Logic.{inl, inr}
use mathlib.Core.List.{List, [], ◌∷◌}
use mathlib.Core.Bool.{Bool, true, false}
use native.Mathlib.Omega.{arith}
use native.Mathlib.Numerals.{add-one}
use lib.ListN.{length, get_or, take, drop, drop_of_length-le}
use lib.Seq.{drop-cons, take-add}
use Rattle.lists.proofs.Tests.{by-test}
use Rattle.lists.specs.Member.{Mem}
use Rattle.lists.proofs.MemberLaws.{mem_append}
use Rattle.lists.specs.Search.{first_place}
use Rattle.fan.specs.Candidates.{may_join}

-- No candidate before place lo may join.
unfoldable pub NoneJoins : List ℕ → List ℕ → ℕ → List ℕ → ℕ → Type 0
NoneJoins l M s near lo = (k : ℕ) → Mem k (take lo near) → may_join l M s k ≡ false

-- ---- the place before which no candidate may join

pub passed_none : (l M : List ℕ) (s : ℕ) (near : List ℕ) → NoneJoins l M s near 0
unfolding NoneJoins
passed_none l M s near k p = absurd p

-- The place, as the code goes on with it.
module _ (t : ℕ → Bool) (ks : List ℕ) (i : ℕ) where
  pub place_here : i < length ks → t (get_or ks i 0) ≡ true → first_place t (drop i ks) ≡ 0
  unfolding first_place
  place_here h p = rw (drop-cons ks i 0 h, p, first_place)

  pub place_next : i < length ks → t (get_or ks i 0) ≡ false → first_place t (drop i ks) ≡ 1 + first_place t (drop (i + 1) ks)
  unfolding first_place
  place_next h p = rw (drop-cons ks i 0 h, p, first_place, add-one i) (omega arith)

  pub place_end : length ks ≤ i → first_place t (drop i ks) ≡ 0
  unfolding first_place
  place_end h = rw (drop_of_length-le ks {i = i} h)

-- No number before the place passes.
before_place : (t : ℕ → Bool) (ks : List ℕ) (k : ℕ) → Mem k (take (first_place t ks) ks) → t k ≡ false
unfolding first_place
before_place t [] k p = absurd p
before_place t (j ∷ ks) k p = by-test (t j)
    (λ u. absurd (simp u at p))
    (λ u. elim (simp u at p) [ inl z ↦ rw z u | inr z ↦ before_place t ks k z ])

pub passed_skipped : (l M : List ℕ) (s : ℕ) (near : List ℕ) (from r : ℕ) → r ≡ from + first_place (may_join l M s) (drop from near) → NoneJoins l M s near from → NoneJoins l M s near r
unfolding NoneJoins
passed_skipped l M s near from r e passed k q =
    let p = first_place (may_join l M s) (drop from near) in
    elim (mem_append k (take from near) (take p (drop from near)) (rw (e, take-add from p near) at q)) [
      | inl z ↦ passed k z
      | inr z ↦ before_place (may_join l M s) (drop from near) k z
    ]
