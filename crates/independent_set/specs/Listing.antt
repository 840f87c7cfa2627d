-- The list of uncoloured items as the code holds it.
use Rattle.std.specs.Prelude.{ℕ, ◌+◌, ◌≤◌, ◌<◌, ◌≡◌, ◌≢◌, List, length, get_or, take}
use Rattle.greedy.specs.IndependentSet.{Lists}

-- The first `len` numbers of an array are these items, of n, and each item's place is known. So no item stands twice.
pub record Listing (n : ℕ) (listed place : List ℕ) (len : ℕ) (items : List ℕ) : Type 0 where
  pub few : n ≤ 4096
  pub size : length listed ≡ 4096
  pub places : length place ≡ 4096
  pub room : len ≤ n
  pub inside : (j : ℕ) → j < len → get_or listed j 0 < n
  pub placed : (j : ℕ) → j < len → get_or place (get_or listed j 0) 0 ≡ j
  pub held : take len listed ≡ items

-- The listed items and those put off: two arrays that share the places.
pub record ListsHeld (n : ℕ) (listed place next : List ℕ) (len end : ℕ) (s : Lists) : Type 0 where
  pub first : Listing n listed place len s.listed
  pub second : Listing n next place end s.next
  pub apart : (i j : ℕ) → i < len → j < end → get_or listed i 0 ≢ get_or next j 0
  pub total : len + end ≤ n

-- What two arrays hold.
abbrev pub lists_at : List ℕ → List ℕ → ℕ → ℕ → Lists
lists_at listed next len end = record { listed = take len listed; next = take end next }
