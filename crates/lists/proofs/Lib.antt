-- Laws of what specs/ defines.
pub mod Tests
pub mod MemberLaws
pub mod PartsLaws
pub mod SearchLaws
pub mod AnyLaws
