pub mod Told
pub mod Crossing
