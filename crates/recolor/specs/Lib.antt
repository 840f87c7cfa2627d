-- The path and the new colours, as a step reads them.
pub mod Front
pub mod TablePath
pub mod NewColors
