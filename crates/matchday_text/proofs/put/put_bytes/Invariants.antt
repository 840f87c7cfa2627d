-- The invariant: the bytes passed are put.
use Rattle.std.proofs.Common.{take}
use Rattle.matchday_text.specs.Put.{Put}
use Rattle.matchday_text.proofs.put.put_bytes.Given as goal

abbrev pub invariant-loop-byte : goal.invariant-loop-byte
invariant-loop-byte l = Put l.initial.text l.at (take l.byte-index l.bytes) l.text l.next
