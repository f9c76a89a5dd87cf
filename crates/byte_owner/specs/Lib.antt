pub mod Bytes
pub mod Search
