pub mod Follows
pub mod Rule
pub mod Steps
pub mod Views
