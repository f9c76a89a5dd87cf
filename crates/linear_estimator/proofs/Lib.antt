pub mod Deviations
pub mod Body
