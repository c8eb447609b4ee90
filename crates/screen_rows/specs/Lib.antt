pub mod Screen
pub mod Laws
pub mod Examples
