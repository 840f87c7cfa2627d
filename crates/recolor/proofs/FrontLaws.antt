-- Laws of what specs/Front defines.
use Prim.Native.Nat.{ℕ, suc, ◌+◌, ◌≤◌}
use mathlib.Core.Path.{◌≡◌, refl, sym, ap, ◌∙◌}
use mathlib.Core.List.{List, [], ◌∷◌, ◌++◌, append_assoc, append-nil}
use native.Mathlib.Omega.{arith}
use native.Mathlib.Numerals.{add-one}
use lib.ListN.{length, set, take, drop, length-set, take-append-drop}
use lib.Seq.{take-suc-set, length-take-le, take-append_seam, drop-set-lt, drop-drop}
use borrow.Author.Tests.{le-leb, lt-leb}
use Rattle.graph.specs.Table.{over}
use Rattle.recolor.specs.Front.{put_front}

pub front_short : (new out : List ℕ) → suc (length out) ≤ length new → out ≡ put_front new out
unfolding put_front
front_short new out h = simp (lt-leb (length new) (length out) h)

pub front_put : (new out out' : List ℕ) → length new ≤ length out → out' ≡ over new out → out' ≡ put_front new out
unfolding put_front
front_put new out out' h e = simp (le-leb (length new) (length out) h) e

-- What then stands at the front.
pub over_front : (new out out' : List ℕ) → out' ≡ over new out → take (length new) out' ≡ new
over_front new out out' e = rw e (take-append_seam new (drop (length new) out))

pub put_front_lem : (new out out' : List ℕ) → length new ≤ length out → out' ≡ put_front new out → take (length new) out' ≡ new
unfolding put_front
put_front_lem new out out' h e = over_front new out out' (simp (le-leb (length new) (length out) h) at e)

-- The first i numbers of R stand in out, `rest` is to come, there is room for it, and from place i on the slice is as it was.
pub record Front (R out₀ out rest : List ℕ) (i : ℕ) : Type 0 where
  pub whole : take i out ++ rest ≡ R
  pub kept : drop i out ≡ drop i out₀
  pub room : i + length rest ≤ length out

pub front_start : (R out : List ℕ) → length R ≤ length out → Front R out out R 0
front_start R out h = record { whole = refl; kept = refl; room = omega arith }

pub front_next : (R out₀ out rest : List ℕ) (i x : ℕ) → Front R out₀ out (x ∷ rest) i → Front R out₀ (set out i x) rest (i + 1)
front_next R out₀ out rest i x F = record {
  whole = rw (add-one i, take-suc-set out i x (omega (arith, F.room)), append_assoc (take i out) (x ∷ []) rest) F.whole;
  kept = drop-set-lt (i + 1) out i x (omega arith) ∙ (sym (drop-drop 1 i out) ∙ (ap (drop 1) F.kept ∙ drop-drop 1 i out₀));
  room = rw (length-set out i x) (omega (arith, F.room));
}

pub front_all : (R out₀ out : List ℕ) (i : ℕ) → Front R out₀ out [] i → (out ≡ over R out₀) × (i ≡ length R)
front_all R out₀ out i F =
    let e = sym (append-nil (take i out)) ∙ F.whole in
    let l : i ≡ length R = sym (length-take-le i out (omega (arith, F.room))) ∙ ap length e in
    (sym (take-append-drop i out) ∙ (ap (λ (a : List ℕ). a ++ drop i out) e ∙ (ap (λ (b : List ℕ). R ++ b) F.kept ∙ ap (λ (j : ℕ). R ++ drop j out₀) l)), l)
