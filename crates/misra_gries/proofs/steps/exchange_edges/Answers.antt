use Rattle.std.proofs.Common.{rules}
use Rattle.misra_gries.proofs.StepLaws.{edges_exchanged}
use Rattle.misra_gries.proofs.steps.exchange_edges.Goals as goal

pub returns : goal.returns
returns c = search (rules, edges_exchanged)
