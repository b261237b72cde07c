mod Edited
mod Parts
pub mod ShelfLaws
mod Shelving
mod Sorting
