-- Laws of what specs/ defines.
pub mod Examples
pub mod FieldLaws
pub mod FileLaws
pub mod OutcomeLaws
