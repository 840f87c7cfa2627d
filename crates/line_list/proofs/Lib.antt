-- Laws of what specs/ defines.
pub mod PairLaws
pub mod LineNeighborLaws
