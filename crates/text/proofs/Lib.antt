-- Laws; the head of each file lists what it offers.

-- numbers and answers
pub mod Decimals
pub mod Texts
pub mod Ways
-- rows' text, chunk by chunk
pub mod Chunks
pub mod Filling
