use Rattle.std.proofs.Common.{rules, arith, refl, ◌<◌, length}
use mathlib.Core.Path.{◌∙◌}
use Rattle.lists.specs.Search.{all_below}
use Rattle.lists.proofs.SearchLaws.{all_below_kept, all_below_broken, all_below_all}
use Rattle.graph.proofs.check.all_below.Goals as goal
use Rattle.graph.proofs.check.all_below.Goals.{then-n-end, else-n-end}

pub loop-end-init : goal.loop-end-init
unfolding all_below
loop-end-init c = refl

pub loop-end-preserved : goal.loop-end-preserved
loop-end-preserved c =
    let h : c.loop-end.end-index < length c.args.ends.now = omega arith in
    elim c.if-n-end.branch [ then-n-end w ↦ w.all-is ∙ all_below_broken _ _ _ h w.if-n-end.true | else-n-end w ↦ w.all-is ∙ all_below_kept _ _ _ _ c.loop-end.invariant h w.if-n-end.false ]

pub returns : goal.returns
returns c = search (rules, all_below_all)
