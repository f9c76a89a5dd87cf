-- Laws of loops over values; the head of each file lists what it offers.

pub mod Ranges
pub mod Scans
pub mod Copies
