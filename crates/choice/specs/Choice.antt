-- The choice of the next item of Saturation, by the two counts of each item.
use Rattle.std.specs.Prelude.{ℕ, zero, suc, max, List, Bool, not, ◌&&◌, ◌||◌, cond, length, get_or, eqb, ltb}
use Rattle.std.specs.Prelude.{Some, None, Option as Answer}
use Rattle.std.proofs.Math.Option.{Option, none, some}
use Rattle.graph.specs.declared.NodeIndex.{NodeIndex}
use Rattle.graph.specs.Colored.{is_colored}

-- The answer of `choose`.
abbrev pub option_of : Answer NodeIndex → Option ℕ
option_of (Some v) = some v.0
option_of None = none

-- The greatest value at the numbers below n, 0 if there are none.
unfoldable pub greatest_below : (ℕ → ℕ) → ℕ → ℕ
greatest_below f zero = 0
greatest_below f (suc n) = max (greatest_below f n) (f n)

-- The lowest number below n that passes the test.
unfoldable pub lowest_below : (ℕ → Bool) → ℕ → Option ℕ
lowest_below t zero = none
lowest_below t (suc n) = elim (lowest_below t n) [ some v ↦ some v | none ↦ cond (t n) (some n) none ]

-- The waiting count of item v if it has this saturation, 0 if not.
abbrev pub count_with : List ℕ → ℕ → List ℕ → ℕ → ℕ
count_with saturations saturation waiting v = cond (eqb (get_or saturations v 0) saturation) (get_or waiting v 0) 0

-- Whether item v has these two counts and no colour.
unfoldable pub can_be_next : List ℕ → List ℕ → List ℕ → ℕ → ℕ → ℕ → Bool
can_be_next colors saturations waiting most longest v = eqb (get_or saturations v 0) most && (eqb (get_or waiting v 0) longest && not (is_colored colors v))

-- The lowest item without a colour that has the greatest saturation of all items and the greatest waiting count of the items with that
-- saturation. None if there is no such item, and none where there are more than 4,096 items or an item has no count.
unfoldable pub choice_of : List ℕ → List ℕ → List ℕ → Option ℕ
choice_of colors saturations waiting =
    let n = length colors in
    let most = greatest_below (λ v. get_or saturations v 0) n in
    let longest = greatest_below (count_with saturations most waiting) n in
    cond (ltb 4096 n || (ltb (length saturations) n || ltb (length waiting) n)) none (lowest_below (can_be_next colors saturations waiting most longest) n)
