pub mod Digits
pub mod Pieces
pub mod Room
pub mod BlockLine
pub mod Walk
pub mod Verdict
