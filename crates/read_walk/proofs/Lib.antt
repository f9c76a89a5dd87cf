-- Laws of a walk; the head of each file lists what it offers.

pub mod Walking
