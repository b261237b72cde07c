pub mod Lending
pub mod MayPut
