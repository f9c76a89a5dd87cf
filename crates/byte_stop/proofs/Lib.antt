-- Laws that the functions' proofs cite; the head of each file lists what it offers.
pub mod Reaching
pub mod Blocking
pub mod Opens
pub mod Determined
