pub mod Entries
pub mod Padding
