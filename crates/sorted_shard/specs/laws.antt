pub mod DigestLaws
pub mod UniqueLaws
