-- Laws and theorems; the head of each file lists what it offers.

-- a row's line
pub mod RowLines
-- the way from chunk to chunk
pub mod Ways
-- what the calls come to
pub mod Determined
