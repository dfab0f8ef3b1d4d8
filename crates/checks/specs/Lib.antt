pub mod Checks
pub mod Scan
