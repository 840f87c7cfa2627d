-- Laws of what specs/ defines.
pub mod CandidateLaws
pub mod TablePlacesLaws
