-- Laws; the head of each file lists what it offers.

-- opening within a program's limits, and the rows of what it opened
pub mod Limits
pub mod Rows
pub mod Answered
-- rows in ascending order
pub mod Owns
pub mod Holding
-- what opening comes to
pub mod Determined
