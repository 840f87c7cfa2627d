-- Numbers within bounds, and the choice between two lists, with examples.
pub mod Within
pub mod FewerDays
pub mod Examples
