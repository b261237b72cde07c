pub mod SlowLaws
