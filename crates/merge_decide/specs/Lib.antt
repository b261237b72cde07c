pub mod Counted
pub mod Decision
pub mod laws
