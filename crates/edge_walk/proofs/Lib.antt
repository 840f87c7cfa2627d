-- What a step of a walk tells.
pub mod WalkLaws
