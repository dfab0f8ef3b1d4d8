pub mod Accepted
pub mod Following
