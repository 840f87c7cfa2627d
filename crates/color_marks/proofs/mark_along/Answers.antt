use Prim.Native.Nat.{◌<◌}
use lib.ListN.{length}
use mathlib.Core.Path.{refl, ◌∙◌}
use native.Mathlib.Omega.{arith}
use borrow.Author.Rules.{rules}
use Rattle.color_marks.proofs.MarksLaws.{along_none, along_more, along_outside, along_all}
use Rattle.color_marks.proofs.mark_along.Goals as goal
use Rattle.color_marks.proofs.mark_along.Goals.{then-v-marks, else-v-marks}

pub loop-edge-init : goal.loop-edge-init
loop-edge-init c = (refl, refl, c.requires, along_none _ _ _ _ c.args.edges.now _)

pub item_mark-mark-requires : goal.item_mark-mark-requires
item_mark-mark-requires c = c.loop-edge.invariant.2

pub loop-edge-preserved : goal.loop-edge-preserved
loop-edge-preserved c =
    let l = c.loop-edge in
    let h : l.edge-index < length c.args.edges.now = omega arith in
    elim c.if-v-marks.branch [
      | then-v-marks w ↦ (search rules, search rules, c.item_mark-mark.ensures.answer.1, w.marks-is ∙ along_more _ _ _ _ _ _ _ _ l.invariant.3 h _ _ c.across-item.ensures.answer c.item_mark-mark.ensures.answer.0)
      | else-v-marks w ↦ (search rules, search rules, c.item_mark-mark.ensures.answer.1, w.marks-is ∙ along_outside _ _ _ _ _ _ _ _ l.invariant.3 h _ c.across-item.ensures.answer w.if-v-marks.false)
    ]

pub returns : goal.returns
returns c = record { marks = along_all _ _ _ _ _ _ _ _ c.loop-edge.invariant.3 (omega arith) (omega arith); asked = c.loop-edge.invariant.2 }
