-- `late_match_properly_colored` meets its contract: by the date table's clause. The proof names no call, so that another in its place falls at the promise.
use borrow.Author.Rules.{rules}
use Rattle.callers.proofs.RelianceLaws.{late_match_proper}
use Rattle.callers.proofs.date_table.late_match_properly_colored.Goals as goal

pub returns : goal.returns
returns c = search (rules, late_match_proper)
