-- The invariant: the numbers passed are copied.
use Rattle.std.proofs.Common.{◌≡◌, ◌++◌, take, drop}
use Rattle.file_layout.specs.Fields.{numbers}
use Rattle.file_fields.proofs.numbers.copy_numbers.Given as goal

abbrev pub invariant-loop-i : goal.invariant-loop-i
invariant-loop-i l = l.list ≡ take l.i (numbers l.bytes) ++ drop l.i l.initial.list
