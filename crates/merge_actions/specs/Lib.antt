pub mod Acts
pub mod Behind
pub mod Steps
pub mod laws
