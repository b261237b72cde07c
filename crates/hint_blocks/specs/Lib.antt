pub mod Entries
pub mod HintLists
pub mod laws
