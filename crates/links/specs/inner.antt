pub mod Sorting
pub mod Tests
pub mod Loading
