pub mod Asked
pub mod Walks
