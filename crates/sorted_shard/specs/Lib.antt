pub mod Shelves
pub mod laws
