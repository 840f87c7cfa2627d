-- The lists between the turns of the loops.
use Rattle.std.specs.Prelude.{ℕ, ◌<◌, ◌⊎◌}
use Rattle.lists.specs.Member.{Mem}
use Rattle.greedy.specs.IndependentSet.{Lists}

-- The items listed and put off are of n.
abbrev pub ListedBelow : ℕ → Lists → Type 0
ListedBelow n s = (v : ℕ) → Mem v s.listed ⊎ Mem v s.next → v < n
