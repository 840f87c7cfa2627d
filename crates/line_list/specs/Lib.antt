-- The line list, and an edge's neighbours.
pub mod LineList
pub mod Examples
pub mod LineNeighbors
