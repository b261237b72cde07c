pub mod CalledLaws
pub mod EventLaws
pub mod PrefixLaws
pub mod VisitLaws
