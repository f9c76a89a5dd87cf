pub mod Columns
pub mod Naming
pub mod Telling
