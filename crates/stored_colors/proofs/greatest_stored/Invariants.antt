-- `greatest_stored` meets its contract. The invariant: the greatest so far and that of the colours that are left give the greatest of all.
use Prim.Native.Nat.{max}
use mathlib.Core.Path.{◌≡◌}
use lib.ListN.{drop}
use Rattle.vizing.specs.MisraGries.{greatest_color}
use Rattle.stored_colors.proofs.greatest_stored.Given as goal

abbrev pub invariant-loop-c : goal.invariant-loop-c
invariant-loop-c l = max l.greatest (greatest_color (drop l.c-index l.stored)) ≡ greatest_color l.stored
