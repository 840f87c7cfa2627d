-- The checks for loops and double edges: the search for each, and the call's answers.
pub mod DoubleEdges
pub mod Simple
