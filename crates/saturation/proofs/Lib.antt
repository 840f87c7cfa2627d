-- Laws of what specs/ defines.
pub mod CountsLaws
pub mod NotesLaws
pub mod TakenLaws
pub mod TurnsLaws
