-- What C is told: a number, a value behind a pointer, and which strategy a number names.
pub mod Answer
pub mod Strategy
pub mod File
