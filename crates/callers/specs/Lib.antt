-- What the callers rely on.
pub mod Reliance
