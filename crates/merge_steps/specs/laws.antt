pub mod CallLaws
pub mod EndLaws
pub mod LogLaws
