pub mod Promises
pub mod Table
pub mod Outcomes
