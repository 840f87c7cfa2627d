-- The invariant: the numbers passed are put.
use Rattle.std.proofs.Common.{◌≡◌, take}
use Rattle.lists.specs.Parts.{overwrite}
use Rattle.file_layout.specs.Fields.{bytes_of}
use Rattle.write_graph_file.proofs.put.put_numbers.Given as goal

abbrev pub invariant-loop-i : goal.invariant-loop-i
invariant-loop-i l = l.output ≡ overwrite l.initial.output l.at (bytes_of (take l.i l.numbers))
