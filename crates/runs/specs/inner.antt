pub mod Answers
pub mod Steps
pub mod Order
pub mod Computed
pub mod Stored
