pub mod Calls
pub mod Checked
