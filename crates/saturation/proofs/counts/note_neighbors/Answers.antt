-- `note_neighbors` meets its contract: the items at one node note the colour, or at two, one node after the other.
use native.Mathlib.Omega.{arith}
use borrow.Author.Rules.{rules}
use Rattle.items.proofs.TableLaws.{tabled_as}
use Rattle.saturation.proofs.NotesLaws.{first_across, second_across, around_first, around_second, one_noted, both_noted}
use Rattle.saturation.proofs.counts.note_neighbors.Goals as goal

pub note_all-requires : goal.note_all-requires
note_all-requires c = let x = c.edges_at-edges.ensures.contents in record { by_index = first_across _ _ _ _ _ _ (tabled_as c.args.items _ c.requires.size) _ _ c.requires.item_in_bounds _ x c.first_node-first.ensures.answer; notes_room = around_first _ _ _ _ _ _ _ _ c.first_node-first.ensures.answer c.second_node-second.ensures.answer _ x _ _ _ c.requires.notes_room; colors_in_bounds = c.requires.colors_in_bounds }

pub returns-then-eq : goal.returns-then-eq
returns-then-eq c = let x = c.edges_at-edges.ensures.contents in record { noted = one_noted _ _ _ _ _ _ _ _ c.first_node-first.ensures.answer c.second_node-second.ensures.answer _ x _ _ _ _ _ _ (search rules) c.note_all.ensures.noted }

pub note_all-requires-2 : goal.note_all-requires-2
note_all-requires-2 c = let x = c.edges_at-edges.ensures.contents in
    let y = c.edges_at-others.ensures.contents in record { by_index = second_across _ _ _ _ _ _ (tabled_as c.args.items _ c.requires.size) _ _ c.requires.item_in_bounds _ y c.second_node-second.ensures.answer; notes_room = around_second _ _ _ _ _ _ _ _ c.first_node-first.ensures.answer c.second_node-second.ensures.answer _ x (λ e. search (rules, e)) _ y _ _ _ _ _ _ c.note_all.ensures.noted c.requires.notes_room; colors_in_bounds = (omega (arith, c.requires.colors_in_bounds.0, c.note_all.auto.saturations), omega (arith, c.requires.colors_in_bounds.1, c.note_all.auto.waiting), omega (arith, c.requires.colors_in_bounds.2, c.note_all.auto.marks)) }

pub returns : goal.returns
returns c = let x = c.edges_at-edges.ensures.contents in record { noted = both_noted _ _ _ _ _ _ _ _ c.first_node-first.ensures.answer c.second_node-second.ensures.answer _ x (λ e. search (rules, e)) _ c.edges_at-others.ensures.contents _ _ _ _ _ _ c.note_all.ensures.noted _ _ _ c.note_all-2.ensures.noted }
