-- `item_mark` meets its contract: it has a colour or no place, or its nodes are asked, one after the other.
use Rattle.color_marks.proofs.MarksLaws.{mark_colored, mark_first, mark_second}
use Rattle.color_marks.proofs.item_mark.Goals as goal
use Rattle.color_marks.proofs.item_mark.Goals.{then-ask, else-ask}

pub returns-then-not-has_color : goal.returns-then-not-has_color
returns-then-not-has_color c = record { answer = (mark_colored _ _ _ _ _ _ _ _ c.has_color.ensures.answer c.if-not-has_color.true, c.requires) }

pub returns : goal.returns
returns c =
    let first = c.first_node-first.ensures.answer in
    record {
      answer = elim c.if-ask.branch [
        | then-ask w ↦ (mark_first _ _ _ _ _ _ _ _ c.has_color.ensures.answer c.if-not-has_color.false _ _ (λ t. rw (c.from.ensures, t)) (λ t. rw (c.from.ensures, t)) _ first _ c.ask.ensures.answer.0 w.from-is w.if-ask.true, rw w.at-is c.ask.ensures.answer.1)
        | else-ask w ↦ (mark_second _ _ _ _ _ _ _ _ c.has_color.ensures.answer c.if-not-has_color.false _ _ (λ t. rw (c.from.ensures, t)) (λ t. rw (c.from.ensures, t)) _ first _ c.ask.ensures.answer.0 w.if-ask.false _ c.second_node-second.ensures.answer _ w.ask-else-ask.ensures.answer.0 w.from-is, rw w.at-is w.ask-else-ask.ensures.answer.1)
      ];
    }
