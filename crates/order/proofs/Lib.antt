pub mod Cases
pub mod Shift
pub mod Halving
pub mod Inserts
pub mod Held
pub mod Parts
