pub mod Handing
pub mod Record
pub mod List
