pub mod Writes
pub mod Images
pub mod Lengths
