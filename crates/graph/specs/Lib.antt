-- Graphs: reports and checks, ends and incidence order, the incidence table, colours, examples.
pub mod Report
pub mod Check
pub mod Checked
pub mod Edges
pub mod Table
pub mod Examples
pub mod Stretch
pub mod Color
pub mod Colored
pub mod Rows
pub mod Count
