pub mod Links
pub mod Walked
pub mod inner
