pub mod Bytes
pub mod Faults
pub mod Grows
pub mod NumberBlock
pub mod Packing
pub mod PlainCalls
pub mod Turned
pub mod laws
