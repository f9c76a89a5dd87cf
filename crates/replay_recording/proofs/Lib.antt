-- Laws of recordings; the head of the file lists what it offers.

pub mod Numbers
