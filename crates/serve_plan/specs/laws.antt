pub mod NoteLaws
pub mod ServeLaws
pub mod ShareLaws
pub mod StepLaws
pub mod StillLaws
