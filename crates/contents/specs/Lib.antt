pub mod Content
pub mod Integer
pub mod Text
pub mod Time
pub mod Rules
pub mod Leaves
pub mod Scan
pub mod Examples
