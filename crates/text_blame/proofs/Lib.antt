-- Laws; the head of each file lists what it offers.

-- how a blame begins
pub mod Beginnings
-- the way from chunk to chunk
pub mod Ways
-- what the calls come to
pub mod Listed
pub mod Ascending
pub mod Determined
-- computed cases
pub mod BlameCases
