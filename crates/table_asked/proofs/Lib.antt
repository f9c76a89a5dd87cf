-- Laws; the head of each file lists what it offers.

-- a search among a table's blocks
pub mod Cut
-- what opening found
pub mod Tables
-- of the calls
pub mod Calls
pub mod Determined
