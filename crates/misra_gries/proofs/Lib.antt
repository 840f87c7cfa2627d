-- Laws of what specs/ defines.
pub mod MarkedFanLaws
pub mod StepLaws
pub mod RunLaws
pub mod CallLaws
pub mod AddLaws
