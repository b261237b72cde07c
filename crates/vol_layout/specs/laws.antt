pub mod BlankLaws
pub mod EditLaws
pub mod GeometryLaws
pub mod JournalLaws
pub mod KindLaws
pub mod PlaceLaws
pub mod SpanLaws
pub mod SuperblockLaws
