-- `mark_known` meets its contract: the items at one node get their marks, or at two, one node after the other.
use borrow.Author.Rules.{rules}
use Rattle.color_marks.proofs.MarksLaws.{asked_none, around_stored, both_stored}
use Rattle.color_marks.proofs.mark_known.Goals as goal

pub mark_along-requires : goal.mark_along-requires
mark_along-requires c = asked_none _ _ _ _ _ _

pub mark_along-requires-then-ne : goal.mark_along-requires-then-ne
mark_along-requires-then-ne c = c.mark_along.ensures.asked

pub returns-then-ne : goal.returns-then-ne
returns-then-ne c = record { marks = both_stored _ _ _ _ _ _ _ c.first_node-first.ensures.answer c.second_node-second.ensures.answer _ _ c.edges_at-edges.ensures.contents _ _ c.mark_along.ensures.marks (λ e. search (rules, e)) _ c.edges_at-others.ensures.contents _ c.mark_along-then-ne.ensures.marks }

pub returns-else-ne : goal.returns-else-ne
returns-else-ne c = record { marks = around_stored _ _ _ _ _ _ _ c.first_node-first.ensures.answer c.second_node-second.ensures.answer _ _ c.edges_at-edges.ensures.contents _ _ c.mark_along.ensures.marks (search rules) }
