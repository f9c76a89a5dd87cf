pub mod Passing
pub mod Reader
pub mod Short
