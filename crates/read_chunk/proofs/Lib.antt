-- Laws of chunks; the head of each file lists what it offers.

-- a chunk
pub mod Chunks
pub mod Stretches
-- its values
pub mod Rows
pub mod Copies
