pub mod Answer
pub mod Digits
pub mod Table
pub mod Names
pub mod Told
