-- Laws of the edge table's definitions: entries, and the search for an empty place.
use Prim.Native.Nat.{ℕ, zero, suc, ◌+◌, ◌*◌, ◌-◌, ◌≤◌, ◌<◌}
use mathlib.Core.List.{List}
use mathlib.Core.Option.{none, some}
use mathlib.Core.Bool.{Bool, true, false}
use lib.ListN.{get_or}
use lib.Dec.{eqb}
use mathlib.Core.Path.{◌≡◌, refl, sym, ap, ◌∙◌}
use mathlib.Core.Logic.{inl, inr, ◌≢◌}
use native.Mathlib.Omega.{arith}
use native.Mathlib.Nat.{not-suc-le-zero}
use native.Mathlib.Numerals.{add-one}
use borrow.Author.Tests.{eq-eqb, ne_eqb, lt-ltb, le-ltb}
use Rattle.vizing.specs.MisraGries.{is_none}
use Rattle.lists.proofs.Tests.{dec_eq}
use Rattle.edge_table.specs.EdgeTable.{no_edge, edge_of_entry, entry_at, table_edge, is_empty, empty_from, smallest_empty}

-- ---- entries and edges

edge_none : (x : ℕ) → x ≡ no_edge → edge_of_entry x ≡ none
unfolding edge_of_entry
edge_none x e = simp (eq-eqb _ _ e)

edge_some : (x : ℕ) → x ≢ no_edge → edge_of_entry x ≡ some x
unfolding edge_of_entry
edge_some x n = simp (ne_eqb _ _ n)

-- ---- what is read

pub entry_place : (T : List ℕ) (v c : ℕ) → v < 512 → entry_at T v c ≡ get_or T (c * 512 + v) no_edge
unfolding entry_at
entry_place T v c h = simp (lt-ltb _ _ h)

pub no_place : (T : List ℕ) (v c : ℕ) → 512 ≤ v → no_edge ≡ entry_at T v c
unfolding entry_at
no_place T v c h = simp (le-ltb _ _ h)

-- The answers, by the entry that was read.
module _ (T : List ℕ) (v c x : ℕ) (read : x ≡ entry_at T v c) where
  pub reads_none : x ≡ no_edge → none ≡ table_edge T v c
  unfolding table_edge
  reads_none e = sym (edge_none x e) ∙ ap edge_of_entry read

  pub reads_edge : x ≢ no_edge → some x ≡ table_edge T v c
  unfolding table_edge
  reads_edge n = sym (edge_some x n) ∙ ap edge_of_entry read

  pub reads_empty : eqb x no_edge ≡ is_empty T v c
  unfolding is_empty
  reads_empty = elim (dec_eq x no_edge) [
    | inl e ↦ eq-eqb x no_edge e ∙ ap is_none (reads_none e)
    | inr n ↦ ne_eqb x no_edge n ∙ ap is_none (reads_edge n)
  ]

-- ---- the first empty place

-- What is known of the first colour that no edge at v has.
pub record FirstEmpty (T : List ℕ) (v c : ℕ) : Type 0 where
  pub bound : c ≤ 576
  pub empty : c < 576 → is_empty T v c ≡ true
  pub smaller : (b : ℕ) → b < c → is_empty T v b ≡ false

empty_stops : (fuel : ℕ) (T : List ℕ) (v c : ℕ) → is_empty T v c ≡ true → empty_from (suc fuel) T v c ≡ c
unfolding empty_from
empty_stops fuel T v c e = rw (e, empty_from)

empty_goes : (fuel : ℕ) (T : List ℕ) (v c : ℕ) → is_empty T v c ≡ false → empty_from (suc fuel) T v c ≡ empty_from fuel T v (suc c)
unfolding empty_from
empty_goes fuel T v c e = rw (e, empty_from)

first_empty_from : (fuel : ℕ) (T : List ℕ) (v c : ℕ) → fuel + c ≡ 576 → ((b : ℕ) → b < c → is_empty T v b ≡ false) → FirstEmpty T v (empty_from fuel T v c)
unfolding empty_from
first_empty_from zero T v c e used = record { bound = omega arith; empty = λ h. let z : ⊥ = omega arith in absurd z; smaller = used }
first_empty_from (suc fuel) T v c e used = go (first_empty_from fuel T v (suc c) (omega arith)) (is_empty T v c) refl
  where
    go : (((b : ℕ) → b < suc c → is_empty T v b ≡ false) → FirstEmpty T v (empty_from fuel T v (suc c))) → (t : Bool) → is_empty T v c ≡ t
        → FirstEmpty T v (empty_from (suc fuel) T v c)
    go rec true p = rw (empty_stops fuel T v c p) (record { bound = omega arith; empty = λ h. p; smaller = used })
    go rec false p = rw (empty_goes fuel T v c p) (rec (λ b h. elim (dec_eq b c) [ inl q ↦ rw q p | inr q ↦ used b (omega arith) ]))

pub first_empty : (T : List ℕ) (v : ℕ) → FirstEmpty T v (smallest_empty T v)
unfolding smallest_empty
first_empty T v = first_empty_from 576 T v 0 refl (λ b h. absurd (not-suc-le-zero h))

-- The search, as the code goes on with it.
pub empty_start : (T : List ℕ) (v : ℕ) → empty_from (576 - 0) T v 0 ≡ smallest_empty T v
unfolding smallest_empty
empty_start T v = refl

pub empty_found : (T : List ℕ) (v c r : ℕ) (t : Bool) → empty_from (576 - c) T v c ≡ r → c < 576 → t ≡ is_empty T v c → t ≡ true → c ≡ r
empty_found T v c r t e h p q = let f : 576 - c ≡ suc (575 - c) = omega arith in sym (empty_stops (575 - c) T v c (sym p ∙ q)) ∙ (rw f at e)

pub empty_next : (T : List ℕ) (v c r : ℕ) (t : Bool) → empty_from (576 - c) T v c ≡ r → c < 576 → t ≡ is_empty T v c → t ≡ false
    → empty_from (576 - (c + 1)) T v (c + 1) ≡ r
empty_next T v c r t e h p q =
    let f : 576 - c ≡ suc (576 - suc c) = omega arith in
    rw (add-one c) (sym (empty_goes (576 - suc c) T v c (sym p ∙ q)) ∙ (rw f at e))

pub empty_none : (T : List ℕ) (v c r : ℕ) → empty_from (576 - c) T v c ≡ r → 576 ≤ c → c ≡ r
unfolding empty_from
empty_none T v c r e h = let f : 576 - c ≡ zero = omega arith in rw f at e
