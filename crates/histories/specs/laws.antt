pub mod FitLaws
pub mod FrontLaws
pub mod PhaseLaws
pub mod PushLaws
