-- What `Sized` and `Tabled` say of the items of a graph with its table.
use Prim.Native.Nat.{ℕ}
use mathlib.Core.Path.{◌≡◌, ◌∙◌}
use Rattle.items.specs.declared.table.Items.{Items}
use Rattle.items.specs.Items.{Sized, Tabled}

pub sized_as : (items : Items) (m : ℕ) → m ≡ items.count → Sized items.kind items.table.nodes items.table.ends.now m
sized_as items m e = record { passed = items.table.passed; size = e ∙ items.counted }

pub tabled_as : (items : Items) (m : ℕ) → m ≡ items.count → Tabled items.kind items.table.nodes items.table.ends.now items.table.starts.now items.table.entries.now m
tabled_as items m e = record { sized = sized_as items m e; table = items.table.table }
