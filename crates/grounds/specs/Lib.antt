pub mod Ground
pub mod Laws
