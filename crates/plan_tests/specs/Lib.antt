pub mod Caches
pub mod Seen
