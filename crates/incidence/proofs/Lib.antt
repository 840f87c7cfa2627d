-- Laws of what specs/ defines.
pub mod FillLaws
pub mod IncidenceLaws
