-- What stands in a lent slice.
pub mod Lent
