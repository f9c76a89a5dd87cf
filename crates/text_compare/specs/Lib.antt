pub mod Beginning
pub mod Chunk
pub mod Through
pub mod Way
