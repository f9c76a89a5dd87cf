-- Laws of a run of rows; the head of each file lists what it offers.

pub mod Beginnings
pub mod Straight
