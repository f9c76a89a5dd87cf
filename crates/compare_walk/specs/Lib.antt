pub mod Differences
pub mod Equal
pub mod Walking
