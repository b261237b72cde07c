pub mod EntryLaws
pub mod HintListLaws
