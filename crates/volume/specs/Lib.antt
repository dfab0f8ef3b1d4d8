pub mod Heading
pub mod Reading
pub mod Checking
pub mod Writing
pub mod inner
pub mod Answers
