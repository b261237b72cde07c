pub mod Made
pub mod Tables
pub mod laws
