pub mod Chunk
pub mod Refused
pub mod Way
