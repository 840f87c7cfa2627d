-- Laws of what specs/ defines.
pub mod StrategyLaws
pub mod ZeroLaws
