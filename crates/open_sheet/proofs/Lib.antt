pub mod Judging
pub mod SheetNumbers
