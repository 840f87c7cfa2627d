-- The candidates of the fan and its places up to w, as a step reads them.
pub mod Candidates
pub mod TablePlaces
