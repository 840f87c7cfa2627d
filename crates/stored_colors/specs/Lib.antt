-- Stored colours entered in a working list and its edge table.
pub mod Stored
