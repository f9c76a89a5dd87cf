-- Laws that the functions' proofs cite; the head of each file lists what it offers.
pub mod Runs
pub mod Searches
pub mod Bytes
pub mod Determined
