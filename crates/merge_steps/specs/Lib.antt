pub mod Logs
pub mod Steps
pub mod Sweeps
pub mod laws
