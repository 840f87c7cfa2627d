-- `note_color` meets its contract: the colour is marked, stored and noted.
use mathlib.Core.Path.{refl}
use native.Mathlib.Omega.{arith}
use Rattle.saturation.proofs.TakenLaws.{take_size, take_inside, take_room, take_sizes, take_ready, zero_at}
use Rattle.saturation.proofs.CountsLaws.{used_known_items}
use Rattle.items.proofs.ItemsLaws.{items_few}
use Rattle.items.proofs.TableLaws.{sized_as}
use Rattle.saturation.proofs.counts.note_color.Goals as goal

pub note_neighbors-requires : goal.note_neighbors-requires
note_neighbors-requires c = let r = c.requires.counts_ready in
    let a = c.requires.item_in_bounds in
    let n = c.requires.fact in
    let few = items_few _ _ _ _ (sized_as c.args.items _ r.size) in record { size = take_size _ _ _ _ _ _ r a.0 a.1 n; item_in_bounds = take_inside _ _ _ _ _ _ r a.0 a.1 n; notes_room = take_room _ _ _ _ _ _ r a.0 a.1 n _; colors_in_bounds = take_sizes _ _ _ _ _ _ r a.0 a.1 n c.mark_used.new.marks (omega (arith, few, c.mark_used.auto.marks)) }

pub returns : goal.returns
returns c = let r = c.requires.counts_ready in
    let a = c.requires.item_in_bounds in
    let n = c.requires.fact in record { colors = refl; ready = take_ready _ _ _ _ _ _ r a.0 a.1 n _ _ _ _ (used_known_items c.args.items _ _ r.size n _ _ _ (zero_at 4096) (omega arith) c.mark_used.ensures.marks) c.note_neighbors.ensures.noted c.note_neighbors.auto.saturations c.note_neighbors.auto.waiting }
