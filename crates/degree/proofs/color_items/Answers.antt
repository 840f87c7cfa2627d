-- `color_items` meets its contract: the lists have room for the items of this kind.
use native.Mathlib.Omega.{arith}
use Rattle.degree.proofs.ColorLaws.{nodes_room, edges_room}
use Rattle.degree.proofs.color_items.Goals as goal

pub color_checked-requires-clause-order_room : goal.color_checked-requires-clause-order_room
color_checked-requires-clause-order_room c = nodes_room 4100 (omega arith) _ _ c.args.graph.passed

pub color_checked-requires-in-Edges-clause-order_room : goal.color_checked-requires-in-Edges-clause-order_room
color_checked-requires-in-Edges-clause-order_room c = edges_room 8192 (omega arith) _ _ c.args.graph.passed
