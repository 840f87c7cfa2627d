-- Laws of what the code puts, of what it is told, and of the call.
pub mod PutLaws
pub mod ToldLaws
pub mod CallLaws
