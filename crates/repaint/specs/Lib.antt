-- Edges that take new colours: what is entered in the table, and when it is the table of a working list.
pub mod Repaint
