pub mod MisfitLaws
pub mod OpeningLaws
