pub mod Tag
pub mod Laws
