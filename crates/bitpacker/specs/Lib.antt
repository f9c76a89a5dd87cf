pub mod Packer
pub mod Runs
