-- Laws of a lookup; the head of each file lists what it offers.

pub mod Beginnings
pub mod Rests
pub mod Sweeps
