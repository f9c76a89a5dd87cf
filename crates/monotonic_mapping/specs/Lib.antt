pub mod Flips
pub mod Words
pub mod Calls
