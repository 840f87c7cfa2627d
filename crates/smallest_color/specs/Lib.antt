-- Marks on colours, and the colours of a node's or an edge's neighbours.
pub mod Marks
pub mod EdgeMarks
