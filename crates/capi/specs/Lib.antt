-- What a call of the C interface answers.
pub mod Strategy
pub mod Zero
