pub mod PassLaws
pub mod SoundLaws
pub mod SettledLaws
