-- Laws of opening; the head of each file lists what it offers.

-- opening
pub mod Opens
pub mod Passes
-- what the contracts come to
pub mod Determined
