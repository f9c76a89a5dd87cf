-- Laws; the head of each file lists what it offers.

-- the text of an offset
pub mod Offsets
pub mod RowTexts
