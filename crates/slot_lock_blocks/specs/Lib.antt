pub mod Keys
pub mod LockWords
pub mod ReaderKeys
pub mod Slots
pub mod laws
