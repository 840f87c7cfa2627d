-- `exchange_path` meets its contract: where d is free there is no path, and a path that ends in the short array is the whole path.
use Rattle.std.proofs.Common.{arith}
use mathlib.Core.Path.{refl}
use lib.ListN.{replicate}
use Rattle.recolor.proofs.TablePathLaws.{path_written}
use Rattle.misra_gries.proofs.StepLaws.{path_empty, path_followed, path_few, path_exchanged}
use Rattle.misra_gries.proofs.steps.exchange_path.Goals as goal

pub returns-then-is_free : goal.returns-then-is_free
returns-then-is_free c = record { exchanged = path_empty _ _ _ _ _ _ _ c.requires _ c.is_free.ensures.answer c.if-is_free.true }

pub returns-then-len-lt-FEW : goal.returns-then-len-lt-FEW
returns-then-len-lt-FEW c =
    let f = path_few _ _ _ _ _ _ 32 _ c.follow-len.result (omega arith) (λ z. omega arith) c.follow-len.auto.out (path_written _ _ _ _ _ _ _ _ _ (c.follow-len.ensures.answer, c.follow-len.ensures.out)) in
    record { exchanged = path_exchanged _ _ _ _ _ _ _ c.requires _ _ _ _ f.path f.filled c.exchange_edges.ensures.exchanged }

pub returns : goal.returns
returns c =
    let f = path_followed _ _ _ _ _ _ (replicate 512 0) _ _ c.requires.nodes refl c.follow-len-2.auto.out (path_written _ _ _ _ _ _ _ _ _ (c.follow-len-2.ensures.answer, c.follow-len-2.ensures.out)) in
    record { exchanged = path_exchanged _ _ _ _ _ _ _ c.requires _ _ _ _ f.path f.filled c.exchange_edges-2.ensures.exchanged }
