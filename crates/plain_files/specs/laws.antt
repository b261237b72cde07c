pub mod CallLaws
pub mod HistoryLaws
