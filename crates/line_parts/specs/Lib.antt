-- The parts of the edges that share an end with an edge.
pub mod Parts
