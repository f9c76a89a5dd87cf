pub mod Checking
pub mod Differing
pub mod Replaying
