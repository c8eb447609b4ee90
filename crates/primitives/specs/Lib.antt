pub mod Primitive
pub mod Laws
