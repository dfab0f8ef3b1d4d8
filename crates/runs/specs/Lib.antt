pub mod Positions
pub mod Runs
pub mod inner
