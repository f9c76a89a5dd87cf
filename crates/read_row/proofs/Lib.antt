-- Laws of reading; the head of each file lists what it offers.

-- a row
pub mod Fitting
pub mod Moving
pub mod Counted
