pub mod Crossing
pub mod Handed
