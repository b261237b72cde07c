pub mod Growing
pub mod Steps
