-- Laws that the functions' proofs cite; the head of each file lists what it offers.

-- the table
pub mod Tables
pub mod Opening
-- what the contracts come to
pub mod Determined
pub mod Calls
pub mod TypedCalls
pub mod FourNumbers
