pub mod KeyLaws
pub mod LockWalk
pub mod Pieces
pub mod ReaderWalk
pub mod SlotWalk
