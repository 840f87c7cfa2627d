-- `list_uncolored` meets its contract. The invariant: the items passed that have no colour are listed.
use Rattle.std.proofs.Common.{◌≡◌, length}
use Rattle.greedy.specs.Turn.{uncolored}
use Rattle.independent_set.specs.Listing.{Listing}
use Rattle.independent_set.proofs.list.Lists.list_uncolored.Given as goal

abbrev pub invariant-loop-item : goal.invariant-loop-item
invariant-loop-item l = record {
  list : Listing l.item l.self-inside.listed l.self-inside.place l.len (uncolored l.presets l.item);
  spare : length l.self-inside.next ≡ 4096;
}
