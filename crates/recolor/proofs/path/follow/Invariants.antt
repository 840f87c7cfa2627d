-- `follow` meets its contract. The invariant: the first len edges of the path stand in out, and it goes on at the end reached.
use lib.ListN.{length}
use Rattle.recolor.specs.TablePath.{table_path}
use Rattle.recolor.proofs.TablePathLaws.{Following}
use Rattle.recolor.proofs.path.follow.Given as goal

abbrev pub invariant-loop-len : goal.invariant-loop-len
invariant-loop-len l = Following l.ends l.table (length l.initial.out) (table_path l.ends l.table (length l.initial.out) l.initial.end.0 l.initial.color.0 l.initial.other.0) l.initial.out l.out l.len l.end.0 l.color.0 l.other.0
