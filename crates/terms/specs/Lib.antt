pub mod Numbers
pub mod Names
pub mod Answer
pub mod Digits
pub mod Laws
