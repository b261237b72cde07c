pub mod Rooms
pub mod Followings
pub mod Plans
pub mod Steps
pub mod laws
