-- Laws of what specs/ defines.
pub mod FrontLaws
pub mod NewColorsLaws
pub mod TablePathLaws
