pub mod Record
pub mod Handing
pub mod Part
pub mod Found
pub mod Samples
pub mod Examples
pub mod Laws
