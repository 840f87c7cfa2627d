-- How reading a file answers.
pub mod Report
