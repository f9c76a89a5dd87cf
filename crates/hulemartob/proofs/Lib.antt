pub mod Joining
pub mod Words
pub mod Determined
