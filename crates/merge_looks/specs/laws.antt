pub mod LookLaws
pub mod LookSteps
