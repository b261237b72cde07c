pub mod Blanked
pub mod Found
pub mod Misfits
pub mod Openings
pub mod Refusals
pub mod laws
