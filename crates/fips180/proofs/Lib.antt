pub mod Constants
pub mod DigestSize
pub mod Parts
pub mod Vectors
pub mod Zeros
