pub mod Given
pub mod Verdicts
