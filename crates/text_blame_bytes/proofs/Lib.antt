-- Laws; the head of each file lists what it offers.

-- the first field that differs
pub mod FirstField
-- the rows of a byte, and counting
pub mod Passed
pub mod FewRows
pub mod Tallies
