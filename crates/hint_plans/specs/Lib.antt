pub mod Logs
pub mod Nexts
pub mod Plans
pub mod Scans
pub mod Scribbles
pub mod laws
