pub mod MadeLaws
pub mod NumberLaws
