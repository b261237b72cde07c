pub mod Calls
pub mod Devices
pub mod Events
pub mod Memories
pub mod SlotTries
pub mod Tries
pub mod Views
