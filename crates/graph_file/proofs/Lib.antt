-- Laws of reading.
pub mod CallLaws
