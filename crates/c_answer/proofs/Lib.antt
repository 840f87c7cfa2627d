-- Laws of what specs/ defines.
pub mod AnswerLaws
pub mod StrategyLaws
