pub mod FreeLaws
pub mod HeaderLaws
pub mod LockLaws
pub mod ReaderLaws
pub mod SlotLaws
