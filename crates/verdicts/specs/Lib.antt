pub mod Findings
pub mod Verdict
pub mod Examples
