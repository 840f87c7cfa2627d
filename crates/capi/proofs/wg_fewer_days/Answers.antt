-- `wg_fewer_days` meets its contract: the part that `fewer_days_part` names is told as a number and a length.
use mathlib.Core.Path.{sym}
use Rattle.capi.proofs.wg_fewer_days.Goals as goal

pub returns-then-part : goal.returns-then-part
returns-then-part c = let e = sym c.fewer_days_part-part.ensures.answer in record { list = rw e (simp c.if-part.true); length = rw e }

pub returns-else-part : goal.returns-else-part
returns-else-part c = let e = sym c.fewer_days_part-part.ensures.answer in record { list = rw e (simp c.if-part.false); length = rw e }
