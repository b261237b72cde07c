pub mod Looks
pub mod laws
