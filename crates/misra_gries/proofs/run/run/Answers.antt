use Rattle.std.proofs.Common.{arith}
use Rattle.misra_gries.proofs.RunLaws.{running_more, running_next, running_end}
use Rattle.misra_gries.proofs.run.run.Goals as goal

pub loop-k-preserved : goal.loop-k-preserved
loop-k-preserved c =
    let i = c.loop-k.invariant in
    let noted = c.noted-so_far.ensures.answer in
    let stepped = c.step-color.ensures.stepped in
    (running_more _ _ _ _ _ _ _ _ _ i.0 _ _ _ _ (omega arith) _ stepped noted, running_next _ _ _ _ _ _ _ _ _ i.0 _ _ _ _ (omega arith) _ stepped noted _ i.1)

pub returns-clause-held : goal.returns-clause-held
returns-clause-held c = let i = c.loop-k.invariant in running_end _ _ _ _ _ _ _ _ _ i.0 _ i.1 (omega arith)
