-- Laws of lists made into values in place; the head of each file lists what it offers.

pub mod Filling
pub mod Raises
