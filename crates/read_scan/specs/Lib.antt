pub mod Counts
pub mod Gatherings
