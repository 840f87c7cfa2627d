-- A walk over one node's edges.
pub mod Walk
