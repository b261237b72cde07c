pub mod Blocks
pub mod Counts
pub mod Metadatas
pub mod Records
pub mod SitesAt
