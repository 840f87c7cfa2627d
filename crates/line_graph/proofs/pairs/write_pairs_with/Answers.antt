use mathlib.Core.Path.{refl}
use native.Mathlib.Omega.{arith}
use lib.ListN.{length-set}
use Rattle.line_graph.proofs.WrittenPairsLaws.{with_none, with_next, with_all}
use Rattle.line_graph.proofs.pairs.write_pairs_with.Goals as goal

pub loop-i-init : goal.loop-i-init
loop-i-init c = (refl, with_none _ c.args.later.now _ _)

pub bounds-list-place-in-loop-i : goal.bounds-list-place-in-loop-i
bounds-list-place-in-loop-i c = rw (length-set _ _ _) (omega arith)

pub loop-i-preserved : goal.loop-i-preserved
loop-i-preserved c = let l = c.loop-i in (simp length-set l.invariant.0, with_next _ _ _ _ _ l.i _ l.invariant.1 (omega arith) (omega arith) refl)

pub returns : goal.returns
returns c = let l = c.loop-i in record { answer = refl; list = with_all _ _ _ _ _ l.i l.invariant.1 (omega arith) (omega arith) }
