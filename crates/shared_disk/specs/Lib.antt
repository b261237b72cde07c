pub mod Calls
pub mod Events
pub mod MemDisk
pub mod Prefixes
pub mod Seen
pub mod State
pub mod Visits
pub mod laws
