pub mod Scans
pub mod Sound
pub mod Share
pub mod Ranges
pub mod Sorted
pub mod ListRules
