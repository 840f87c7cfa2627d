use Prim.Native.Nat.{◌<◌}
use lib.ListN.{length}
use mathlib.Core.Path.{refl}
use native.Mathlib.Omega.{arith}
use borrow.Author.Rules.{rules}
use Rattle.saturation.proofs.NotesLaws.{notes_none, notes_room, notes_more, notes_all}
use Rattle.saturation.proofs.counts.note_all.Goals as goal

pub loop-edge-init : goal.loop-edge-init
loop-edge-init c = (refl, refl, refl, notes_none _ _ _ c.args.edges.now _ _ _ _)

pub note-requires : goal.note-requires
note-requires c =
    let h : c.loop-edge.edge-index < length c.args.edges.now = omega arith in
    let b = c.requires.by_index c.loop-edge.edge-index h in
    let room = c.requires.colors_in_bounds in
    let i = c.loop-edge.invariant in record { item_in_bounds = (omega (arith, c.across-item.ensures.answer, b), omega (arith, c.across-item.ensures.answer, b, room.0, i.0), omega (arith, c.across-item.ensures.answer, b, room.1, i.1), omega (arith, c.across-item.ensures.answer, b, room.2, i.2)); nonzero = λ z. notes_room _ _ _ _ _ _ _ _ _ _ _ _ c.requires.notes_room i.3 h _ c.across-item.ensures.answer (omega (arith, c.across-item.ensures.answer, b)) z }

pub loop-edge-preserved : goal.loop-edge-preserved
loop-edge-preserved c =
    let h : c.loop-edge.edge-index < length c.args.edges.now = omega arith in
    (search rules, search rules, search rules, notes_more _ _ _ _ _ _ _ _ _ _ _ _ _ _ _ c.loop-edge.invariant.3 h _ c.across-item.ensures.answer c.note.ensures.noted)

pub returns : goal.returns
returns c = record { noted = notes_all _ _ _ _ _ _ _ _ _ _ _ c.loop-edge.edge-index c.loop-edge.invariant.3 (omega arith) (omega arith) }
