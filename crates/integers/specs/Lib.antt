pub mod Allowed
pub mod Laws
