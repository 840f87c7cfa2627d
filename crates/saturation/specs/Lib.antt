-- Strategy Saturation with counts that are kept up to date.
pub mod Counts
