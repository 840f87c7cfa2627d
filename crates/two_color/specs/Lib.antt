-- Two-colouring: walks, components and sides, the outcome, its clause and its examples.
pub mod Walk
pub mod Sides
pub mod TwoColor
pub mod Examples
pub mod Components
