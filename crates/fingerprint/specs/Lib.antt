pub mod DigestOf
