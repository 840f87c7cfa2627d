-- `ask` meets its contract: the answer is noted already, or the node is asked, and the answer noted where there is a place for it.
use Rattle.color_marks.proofs.MarksLaws.{stands_by, asked_outside, asked_yes, asked_no}
use Rattle.color_marks.proofs.ask.Goals as goal
use Rattle.color_marks.proofs.ask.Goals.{then-stands, else-stands}

pub returns-after-stands : goal.returns-after-stands
returns-after-stands c =
    let asked = stands_by _ _ _ _ _ _ _ _ c.edges_at.ensures.contents c.stands_at-stands.ensures.cases in
    record {
      answer = elim c.if-stands.branch [
        | then-stands w ↦ rw w.at-is (asked_yes _ _ _ _ _ _ _ _ c.requires c.if-w-at-2.true _ asked w.if-stands.true)
        | else-stands w ↦ rw w.at-is (asked_no _ _ _ _ _ _ _ _ c.requires c.if-w-at-2.true _ asked w.if-stands.false)
      ];
    }

pub returns-else-w-at-2 : goal.returns-else-w-at-2
returns-else-w-at-2 c = record { answer = asked_outside _ _ _ _ _ _ _ _ c.requires _ (stands_by _ _ _ _ _ _ _ _ c.edges_at.ensures.contents c.stands_at-stands.ensures.cases) }
