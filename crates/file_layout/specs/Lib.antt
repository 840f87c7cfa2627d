-- The graph file: its fields, what it says, and the outcomes of reading and writing it.
pub mod Fields
pub mod File
pub mod Outcomes
pub mod Reliance
