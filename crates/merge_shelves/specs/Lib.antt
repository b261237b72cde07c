pub mod Parts
pub mod Rooms
pub mod Tallies
pub mod Handlings
pub mod Changes
