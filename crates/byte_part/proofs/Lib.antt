-- Laws that the functions' proofs cite; the head of each file lists what it offers.
pub mod Names
pub mod Seeking
pub mod Bytes
pub mod Determined
