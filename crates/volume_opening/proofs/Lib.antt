pub mod BlankLaws
pub mod FormatSteps
pub mod FoundLaws
pub mod OpeningSteps
pub mod SpanLaws
pub mod StateLaws
pub mod VisitSteps
