pub mod ContentLaws
pub mod LineEnds
