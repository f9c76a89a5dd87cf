-- Laws that the functions' proofs cite; the head of each file lists what it offers.
pub mod Filled
pub mod Blocks
pub mod Parts
pub mod Walks
pub mod Body
