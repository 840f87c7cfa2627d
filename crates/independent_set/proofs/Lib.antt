-- Laws of what specs/ defines.
pub mod ListLaws
pub mod IndependentSetLaws
pub mod ListingLaws
pub mod NeighborsLaws
pub mod RoundsLaws
