-- Laws and theorems; the head of each file lists what it offers.

-- rows that differ
pub mod Differing
pub mod Filling
-- what a comparison says
pub mod Feeds
pub mod Comparisons
-- the way from chunk to chunk
pub mod Ways
pub mod Columns
pub mod Cases
-- how a comparison begins
pub mod Beginnings
-- what the calls come to
pub mod Determined
