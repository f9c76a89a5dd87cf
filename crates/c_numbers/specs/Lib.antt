pub mod Explaining
pub mod Kinds
pub mod Numbers
