pub mod Beginning
pub mod Chunk
pub mod Way
