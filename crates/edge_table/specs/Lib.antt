-- The edge table: what its functions answer. The new colours of a path and of a fan.
pub mod EdgeTable
