pub mod Answers
pub mod Fit
pub mod Fronts
pub mod Joined
pub mod LineCalls
pub mod Lines
pub mod Phases
pub mod laws
