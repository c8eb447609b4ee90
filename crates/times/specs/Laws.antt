pub mod Months
pub mod Parts
pub mod Whole
pub mod Real
