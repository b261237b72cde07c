pub mod DropSure
pub mod OwnShown
pub mod ReplayLaws
pub mod TablesKept
