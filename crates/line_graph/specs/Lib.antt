-- The line list as the call answers and writes it.
pub mod WrittenPairs
