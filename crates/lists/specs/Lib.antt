-- Lists of numbers: membership, searching, parts.
pub mod Member
pub mod Search
pub mod Parts
pub mod Tabulate
pub mod Different
pub mod Equal
