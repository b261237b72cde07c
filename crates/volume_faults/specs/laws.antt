pub mod AgreeLaws
pub mod ListLaws
pub mod ReadableLaws
pub mod UniqueLaws
pub mod ValidityLaws
