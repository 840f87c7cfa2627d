-- Laws of what specs/ defines.
pub mod DefinitionLaws
pub mod StepForm
pub mod AlternatingPath
pub mod Fan
pub mod Tally
pub mod FirstEdges
pub mod Theorem
pub mod ClauseLaws
pub mod SimpleLaws
pub mod StepLaws
pub mod AddEdgeLaws
