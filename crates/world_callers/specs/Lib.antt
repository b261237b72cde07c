pub mod Punches
pub mod Replays
pub mod Rewrites
