pub mod PlaceLaws
pub mod StoreLaws
