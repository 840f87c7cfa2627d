-- Greedy colouring: the three strategies over a number of items and their neighbours, and the call's outcome.
pub mod Turn
pub mod Degree
pub mod Saturation
pub mod IndependentSet
pub mod Call
pub mod Examples
pub mod Greedy
