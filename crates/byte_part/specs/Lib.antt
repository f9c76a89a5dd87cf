pub mod Bytes
pub mod Names
pub mod Walk
pub mod Calls
