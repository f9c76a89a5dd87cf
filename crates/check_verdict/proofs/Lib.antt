-- Laws; the head of each file lists what it offers.

-- the rows beside the list
pub mod Fronts
pub mod Steps
-- what opening found
pub mod Verdicts
