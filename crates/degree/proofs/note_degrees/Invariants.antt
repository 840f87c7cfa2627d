-- `note_degrees` meets its contract. The invariant: the items passed have their degrees.
use Prim.Native.Nat.{ℕ, ◌<◌}
use mathlib.Core.Path.{◌≡◌}
use lib.ListN.{length, get_or}
use Rattle.items.specs.Items.{neighbors_of}
use Rattle.degree.proofs.note_degrees.Given as goal

abbrev pub invariant-loop-item : goal.invariant-loop-item
invariant-loop-item l = (u : ℕ) → u < l.item → get_or l.degrees u 0 ≡ length (neighbors_of l.items.kind l.items.table.nodes l.items.table.ends.now u)
