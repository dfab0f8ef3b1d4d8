pub mod Digits
pub mod Put
pub mod Halves
pub mod Same
pub mod Parts
pub mod Order
pub mod Library
