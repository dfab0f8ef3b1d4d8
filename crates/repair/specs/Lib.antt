pub mod Repairing
pub mod Answers
