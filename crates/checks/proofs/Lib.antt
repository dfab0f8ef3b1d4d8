pub mod Laws
pub mod Passed
pub mod Cleared
pub mod Tests
pub mod Scan
pub mod First
