-- Laws of what the tags tell.
use Prim.Native.Nat.{ℕ, zero, suc, ◌*◌, ◌/◌, ◌%◌, ◌^◌, ◌<◌}
use mathlib.Core.Path.{◌≡◌}
use mathlib.Core.Bool.{not}
use native.Mathlib.Omega.{arith}
use lib.Dec.{eqb}
use lib.Pow.{pow_pos}
use lib.Bits.{bit_and}
use borrow.Author.Tests.{ne_eqb}
use Rattle.std.proofs.lemmas.Nat.Bits.{and_pow}

one_or_none : (x p : ℕ) → x < 2 → 0 < p → not (eqb (x * p) 0) ≡ eqb x 1
one_or_none zero p h k = let e : zero * p ≡ 0 = omega arith in rw e
one_or_none (suc zero) p h k = simp (ne_eqb (suc zero * p) 0 (λ z. omega arith))
one_or_none (suc (suc x)) p h k = let z : ⊥ = omega arith in absurd z

pub bit_told : (tags k : ℕ) → not (eqb (bit_and tags (2 ^ k)) 0) ≡ eqb (tags / 2 ^ k % 2) 1
bit_told tags k = rw (and_pow tags k) (one_or_none (tags / 2 ^ k % 2) (2 ^ k) (omega arith) (pow_pos k))
