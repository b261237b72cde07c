pub mod Changing
pub mod Counting
pub mod Deciding
pub mod Noting
