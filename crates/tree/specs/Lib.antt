pub mod Listing
pub mod inner
pub mod Answers
