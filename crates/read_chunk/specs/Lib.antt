pub mod Rows
pub mod Stretch
