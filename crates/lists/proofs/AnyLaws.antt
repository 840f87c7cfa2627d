-- A search of a list for a number, as std's `contains` does it, and the test that the definitions speak of.
use Prim.Native.Nat.{ℕ}
use mathlib.Core.Path.{◌≡◌, refl, sym, ap, ◌∙◌}
use mathlib.Core.List.{List, [], ◌∷◌}
use mathlib.Core.Logic.{◌⊎◌, inl, inr}
use mathlib.Core.Bool.{Bool, ◌||◌}
use lib.Dec.{eqb}
use borrow.Author.Tests.{eq-eqb, ne_eqb}
use Rattle.std.specs.List.{list_any}
use Rattle.lists.specs.Member.{elem}
use Rattle.lists.proofs.Tests.{dec_eq}

pub any_elem : (k : ℕ) (xs : List ℕ) → list_any (λ y. eqb y k) xs ≡ elem k xs
unfolding elem
any_elem k [] = refl
any_elem k (x ∷ xs) = rw (any_elem k xs) (ap (λ (b : Bool). b || elem k xs) (elim (dec_eq k x) [
  | inl e ↦ eq-eqb x k (sym e) ∙ sym (eq-eqb k x e)
  | inr n ↦ ne_eqb x k (λ e. n (sym e)) ∙ sym (ne_eqb k x n)
]))
