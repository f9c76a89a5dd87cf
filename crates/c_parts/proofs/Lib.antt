-- Laws that the functions' proofs cite; the head of each file lists what it offers.
pub mod Filling
pub mod Stretches
pub mod Determined
