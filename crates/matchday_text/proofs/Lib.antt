-- Laws of what specs/ defines.
pub mod PutLaws
pub mod CallLaws
