-- Laws of replaying; the head of each file lists what it offers.

-- comparing found rows as they come
pub mod Meets
pub mod Behind
-- a replay under way
pub mod Walks
