-- Laws of what specs/ defines.
pub mod StoredLaws
pub mod StoredTableLaws
