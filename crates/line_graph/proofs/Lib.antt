-- Laws of what specs/ defines.
pub mod CallLaws
pub mod WrittenPairsLaws
