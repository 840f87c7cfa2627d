-- `places_to` meets its contract. The invariant: the places counted, with those that go on from here, are as many as from the start.
use Prim.Native.Nat.{◌+◌}
use mathlib.Core.Path.{◌≡◌}
use lib.ListN.{length, drop}
use Rattle.fan.specs.TablePlaces.{table_places}
use Rattle.fan.proofs.places.places_to.Given as goal

abbrev pub invariant-loop-count : goal.invariant-loop-count
invariant-loop-count l = l.count + length (table_places l.ends l.table l.color.0 l.node.0 l.end.0 (drop l.count l.fan))
    ≡ 1 + length (table_places l.ends l.table l.color.0 l.node.0 l.initial.end.0 (drop 1 l.fan))
