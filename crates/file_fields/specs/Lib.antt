-- What the code says of a file's fields and of its method.
pub mod Layout
pub mod Method
