pub mod BlockLists
