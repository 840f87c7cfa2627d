-- Laws of what specs/ defines.
pub mod CheckLaws
pub mod CheckedLaws
pub mod EdgeLaws
pub mod TableLaws
pub mod NeighborLaws
pub mod ColorLaws
