-- Of two colour lists the one with fewer days: "the thriftier of two lists" (02, Point 4).
use Rattle.std.specs.Prelude.{ℕ, ◌≤◌, ◌≡◌, ◌⊎◌, List, Bool, false, not, ◌&&◌, ◌||◌, cond, length, take, ltb}
use Rattle.lists.specs.Member.{Mem, elem}
use Rattle.graph.specs.Color.{no_color, days_of}
use Rattle.days.specs.declared.LeadingPart.{LeadingPart}

-- "whichever has fewer days among them, the first list on a tie. A list with 65,535 among those m loses to one without it; if both have it,
-- the first is handed back."
unfoldable pub second_chosen : List ℕ → List ℕ → Bool
second_chosen first second = not (elem no_color second) && (elem no_color first || ltb (days_of second) (days_of first))

-- "hand back the first m numbers": of the second list or of the first. "If m is above either length, the stretch handed back is empty, at the front of the first list."
unfoldable pub fewer_days : List ℕ → List ℕ → ℕ → LeadingPart
fewer_days first second m =
    cond (ltb (length first) m || ltb (length second) m)
    (record { second = false; length = 0 })
    (record { second = second_chosen (take m first) (take m second); length = m })

-- All places of a list have a colour.
abbrev pub AllColored : List ℕ → Type 0
AllColored cs = Mem no_color cs → ⊥

-- What the page grid gets, of two lists that have m numbers.
pub record FewestDays (first second : List ℕ) (m : ℕ) (handed : List ℕ) : Type 0 where
  -- The first m of one of them are handed back,
  pub leading : m ≤ length first → m ≤ length second → (handed ≡ take m first) ⊎ (handed ≡ take m second)
  -- with no more days than either has among them, if all places there have a colour;
  pub fewest : m ≤ length first → m ≤ length second → AllColored (take m first) → AllColored (take m second) → (days_of handed ≤ days_of (take m first)) × (days_of handed ≤ days_of (take m second))
  -- and if this is so of one list at least, all places of those handed back have a colour.
  pub colored : m ≤ length first → m ≤ length second → AllColored (take m first) ⊎ AllColored (take m second) → AllColored handed
