pub mod Integer
pub mod Leaves
