-- Laws of looking at a chunk; the head of each file lists what it offers.

pub mod Lines
pub mod Sures
