pub mod Head
pub mod More
