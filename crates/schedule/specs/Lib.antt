pub mod Plays
pub mod laws
