pub mod Holding
pub mod Own
pub mod Calls
