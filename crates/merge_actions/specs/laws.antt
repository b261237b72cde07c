pub mod ActLaws
pub mod PostLaws
pub mod PromoteLaws
pub mod ShareLaws
pub mod StepLaws
pub mod StillLaws
