-- The choice of the next item of Saturation.
pub mod Choice
