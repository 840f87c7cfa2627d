-- `end_at` meets its contract: beyond the list the default stands.
use mathlib.Core.Path.{sym}
use lib.ListN.{get_or-eq_default}
use Rattle.edge_walk.proofs.end_at.Goals as goal

pub returns-else-place-ends : goal.returns-else-place-ends
returns-else-place-ends c = record { answer = sym (get_or-eq_default c.args.ends.now 0 c.if-place-ends.false) }
