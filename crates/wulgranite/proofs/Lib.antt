-- The statements that are there to be read, each with its proof.
pub mod Statements
