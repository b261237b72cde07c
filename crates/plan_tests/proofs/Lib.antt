pub mod CollectLaws
pub mod FileLaws
pub mod RecordLaws
pub mod SlotLaws
pub mod UntoldLaws
pub mod WorldLaws
