pub mod FourNumbers
pub mod Calls
