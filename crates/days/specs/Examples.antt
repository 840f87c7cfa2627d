-- The choice between two lists worked out, as rows that hold by computation.
use Rattle.std.specs.Prelude.{ℕ, Bool, true, false, ◌&&◌, List, [], ◌∷◌, ◌≡◌, refl, eqb}
use Rattle.std.specs.Bool.{beq}
use Rattle.lists.specs.Member.{elem}
use Rattle.lists.specs.Different.{distinct, different}
use Rattle.graph.specs.Color.{colors_in, days_of, no_color}
use Rattle.days.specs.declared.LeadingPart.{LeadingPart}
use Rattle.days.specs.FewerDays.{second_chosen, fewer_days}

-- A row: the part that the definition gives, and what is expected of it.
pub record Row : Type 0 where
  pub part : LeadingPart
  pub second : Bool
  pub length : ℕ

unfoldable pub all_hold : List Row → Bool
all_hold [] = true
all_hold (r ∷ rs) = beq r.part.second r.second && (eqb r.part.length r.length && all_hold rs)

unfoldable pub rows : List Row
rows =
    -- days 9 and 0 are two, days 0, 1 and 2 three: the first list
    record { part = fewer_days (9 ∷ 0 ∷ 9 ∷ []) (0 ∷ 1 ∷ 2 ∷ []) 3; second = false; length = 3 }
    -- and the other way round the second; sees the greatest colour plus one
    ∷ record { part = fewer_days (0 ∷ 1 ∷ 2 ∷ []) (9 ∷ 0 ∷ 9 ∷ []) 3; second = true; length = 3 }
    -- two days each: the first
    ∷ record { part = fewer_days (0 ∷ 1 ∷ []) (7 ∷ 9 ∷ []) 2; second = false; length = 2 }
    -- only the first two count: one day against two
    ∷ record { part = fewer_days (0 ∷ 1 ∷ 0 ∷ []) (5 ∷ 5 ∷ 6 ∷ 7 ∷ []) 2; second = true; length = 2 }
    -- 65,535 loses, though it is one day against two
    ∷ record { part = fewer_days (4 ∷ no_color ∷ []) (0 ∷ 1 ∷ []) 2; second = true; length = 2 }
    ∷ record { part = fewer_days (0 ∷ 1 ∷ []) (4 ∷ no_color ∷ []) 2; second = false; length = 2 }
    -- both have it: the first, though it has more days
    ∷ record { part = fewer_days (0 ∷ 1 ∷ no_color ∷ []) (4 ∷ 4 ∷ no_color ∷ []) 3; second = false; length = 3 }
    -- beyond the m it does not count
    ∷ record { part = fewer_days (0 ∷ 1 ∷ []) (4 ∷ 4 ∷ no_color ∷ []) 2; second = true; length = 2 }
    -- m above either length: nothing, of the first
    ∷ record { part = fewer_days (0 ∷ 1 ∷ []) (4 ∷ 4 ∷ 4 ∷ []) 3; second = false; length = 0 }
    ∷ record { part = fewer_days (0 ∷ 1 ∷ 2 ∷ []) (4 ∷ 4 ∷ []) 3; second = false; length = 0 }
    -- m 0: nothing, of the first
    ∷ record { part = fewer_days [] [] 0; second = false; length = 0 }
    ∷ []

pub examples : all_hold rows ≡ true
unfolding rows all_hold fewer_days second_chosen days_of colors_in different distinct elem
examples = refl
