-- Laws of what specs/ defines.
pub mod CallLaws
pub mod ItemsLaws
pub mod TableLaws
