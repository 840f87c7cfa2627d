-- Laws of what specs/ defines.
pub mod SideLaws
pub mod TwoColorLaws
pub mod ComponentsLaws
pub mod WalkLaws
