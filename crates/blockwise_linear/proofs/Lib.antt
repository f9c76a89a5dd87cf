-- Laws that the functions' proofs cite; the head of each file lists what it offers.

-- reading the footer
pub mod Footers
pub mod Passes
pub mod Stops
pub mod Lasts
mod Shorts
