-- How many of a slice's first places a count is.
use Rattle.std.specs.Prelude.{◌≡◌, ℕ, ◌≤◌, List, length, take}

-- The first n of xs are a part of it, and that part has n places. The second part follows from the first.
abbrev pub IsPrefixLen : {X : Type 0} → ℕ → List X → Type 0
IsPrefixLen n xs = (n ≤ length xs) × (n ≡ length (take n xs))
