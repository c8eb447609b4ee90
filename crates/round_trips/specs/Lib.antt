pub mod Trip
pub mod Laws
