-- What the contracts of writing come to; the head of each file lists what it offers.

pub mod Holding
pub mod Determined
pub mod Cases
