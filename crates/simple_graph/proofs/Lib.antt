-- Laws of what specs/ defines.
pub mod DoubleEdgesLaws
pub mod SimpleLaws
