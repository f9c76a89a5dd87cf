-- Laws and theorems; the head of each file lists what it offers.

-- a replay under way
pub mod Runs
-- what the call comes to
pub mod Reports
pub mod Determined
