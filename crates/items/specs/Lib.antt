-- The items that are coloured, nodes or edges, and the answers of a call.
pub mod Items
