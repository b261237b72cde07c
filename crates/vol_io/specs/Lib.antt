pub mod Adapted
pub mod Counts
pub mod Held
pub mod Plan
pub mod Reads
pub mod Refusals
pub mod Room
pub mod Writes
