pub mod Block
pub mod Calls
pub mod History
pub mod Plain
pub mod laws
