-- Laws and theorems; the head of each file lists what it offers.

-- what the program is given, and its limits
pub mod Inputs
pub mod Limits
-- what the call comes to
pub mod Judgements
pub mod Determined
