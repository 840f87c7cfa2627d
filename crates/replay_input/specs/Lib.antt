-- What the reading functions count.
pub mod Counts
