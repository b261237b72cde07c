pub mod Files
pub mod Plans
pub mod Requests
pub mod Steps
pub mod laws
