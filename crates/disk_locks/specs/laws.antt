pub mod GivenLaws
pub mod HeldLaws
pub mod OthersLaws
pub mod ReaderLaws
pub mod SureLaws
