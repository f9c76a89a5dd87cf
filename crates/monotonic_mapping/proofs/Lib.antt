-- what the code's steps do
pub mod Steps
pub mod Arms
pub mod Mapped
-- what the contracts come to
pub mod Determined
