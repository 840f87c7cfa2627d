-- Laws of what specs/ defines.
pub mod OrderLaws
pub mod PlaceLaws
pub mod ColorLaws
