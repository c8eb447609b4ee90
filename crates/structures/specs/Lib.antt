pub mod Structure
pub mod Laws
