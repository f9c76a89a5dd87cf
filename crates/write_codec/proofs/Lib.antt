-- Laws of choosing and writing; the head of each file lists what it offers.
pub mod Choosing
pub mod Sizes
pub mod Serializing
