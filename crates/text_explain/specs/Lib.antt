pub mod Chunk
pub mod Explained
pub mod Words
pub mod Way
