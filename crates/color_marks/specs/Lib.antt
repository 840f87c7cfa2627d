-- The marks of the items to which a colour is not new, and the items around one.
pub mod Marks
