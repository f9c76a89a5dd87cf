-- Laws; the head of each file lists what it offers.

-- how an explanation begins
pub mod Beginnings
-- names by their number
pub mod Wording
-- parts by their number
pub mod Placing
-- the way from chunk to chunk
pub mod Ways
-- what the calls come to
pub mod Determined
-- computed cases
pub mod ExplainCases
