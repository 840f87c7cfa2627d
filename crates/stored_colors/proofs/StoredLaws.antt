-- Laws of D, of the greatest, and of the stored colours in the working list and the table.
use Prim.Native.Nat.{ℕ, suc, ◌+◌, ◌≤◌, ◌<◌, max}
use mathlib.Core.Path.{◌≡◌, refl}
use mathlib.Core.Logic.{◌≢◌}
use mathlib.Core.List.{List}
use mathlib.Core.Bool.{true, false}
use native.Mathlib.Omega.{arith}
use native.Mathlib.Numerals.{add-one}
use lib.ListN.{length, get_or, drop, drop_of_length-le}
use lib.Seq.{drop-cons}
use lib.Dec.{ltb}
use borrow.Author.Tests.{lt-ltb, le-ltb, ltb-true, ltb-false}
use Rattle.lists.proofs.Tests.{by-test}
use Rattle.graph.specs.Color.{no_color}
use Rattle.graph.specs.Stretch.{stretch}
use Rattle.vizing.specs.MisraGries.{greatest_color}
use Rattle.vizing.proofs.Tally.{greatest_none, greatest_uncolored, greatest_colored}
use Rattle.repaint.specs.Repaint.{State, colored}
use Rattle.stored_colors.specs.Stored.{longest_stretch, may_take, stored_from, color_stored}

-- ---- D, node by node

pub longest_none : (starts entries : List ℕ) → longest_stretch starts entries 0 ≡ 0
unfolding longest_stretch
longest_none starts entries = refl

pub longest_next : (starts entries : List ℕ) (v : ℕ) → longest_stretch starts entries (v + 1) ≡ max (length (stretch starts entries v)) (longest_stretch starts entries v)
unfolding longest_stretch
longest_next starts entries v = rw (add-one v)

-- ---- one edge after the other, as the code goes on with it

module _ (ends stored : List ℕ) (limit : ℕ) (s : State) where
  pub too_many : 4096 < length stored → color_stored ends stored limit s ≡ record { all = false; state = s }
  unfolding color_stored
  too_many h = rw (lt-ltb 4096 (length stored) h)

  pub stored_start : length stored ≤ 4096 → color_stored ends stored limit s ≡ stored_from ends limit s 0 stored
  unfolding color_stored
  stored_start h = rw (le-ltb 4096 (length stored) h)

  module _ (k : ℕ) where
    -- The edge may not take its colour.
    pub stored_stop : k < length stored → may_take ends s.table k (get_or stored k 0) limit ≡ false → stored_from ends limit s k (drop k stored) ≡ record { all = false; state = s }
    unfolding stored_from
    stored_stop h p = rw (drop-cons stored k 0 h, p, stored_from)

    pub stored_next : k < length stored → may_take ends s.table k (get_or stored k 0) limit ≡ true
        → stored_from ends limit s k (drop k stored) ≡ stored_from ends limit (colored ends s k (get_or stored k 0)) (k + 1) (drop (k + 1) stored)
    unfolding stored_from
    stored_next h p = rw (drop-cons stored k 0 h, p, add-one k, stored_from)

    pub stored_end : length stored ≤ k → stored_from ends limit s k (drop k stored) ≡ record { all = true; state = s }
    unfolding stored_from
    stored_end h = rw (drop_of_length-le stored {i = k} h)

-- ---- the greatest

module _ (cs : List ℕ) (k : ℕ) where
  -- The mark of none does not count.
  pub greatest_mark : k < length cs → get_or cs k 0 ≡ no_color → greatest_color (drop k cs) ≡ max 0 (greatest_color (drop (k + 1) cs))
  greatest_mark h p = rw (drop-cons cs k 0 h, greatest_uncolored (get_or cs k 0) (drop (suc k) cs) p, add-one k) (omega arith)

  pub greatest_next : k < length cs → get_or cs k 0 ≢ no_color → greatest_color (drop k cs) ≡ max (get_or cs k 0) (greatest_color (drop (k + 1) cs))
  greatest_next h p = rw (drop-cons cs k 0 h, greatest_colored (get_or cs k 0) (drop (suc k) cs) p, add-one k) (by-test (ltb (greatest_color (drop (suc k) cs)) (get_or cs k 0))
      (λ t. simp t (omega (arith, ltb-true _ _ t)))
      (λ t. simp t (omega (arith, ltb-false _ _ t))))

  pub greatest_end : length cs ≤ k → greatest_color (drop k cs) ≡ 0
  greatest_end h = rw (drop_of_length-le cs {i = k} h) greatest_none
