-- Laws of the search for the first difference; the head of each file lists what it offers.

-- rows with equal answers
pub mod Equals
-- a search under way
pub mod Seeks
-- what the first difference says, for two columns, and cases
pub mod Firsts
pub mod Columns
pub mod Cases
