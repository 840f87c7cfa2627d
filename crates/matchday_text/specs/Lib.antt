-- What is printed.
pub mod Text
pub mod Put
pub mod Examples
