-- `count_window` meets its contract: the marks that are lent are part of the array.
use Rattle.std.proofs.Common.{arith}
use Rattle.days.proofs.count_window.Goals as goal

pub whole_as_front-count_marked : goal.whole_as_front-count_marked
whole_as_front-count_marked g c = (c.requires.0, omega arith)
