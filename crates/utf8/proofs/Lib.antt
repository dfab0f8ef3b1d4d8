pub mod Ascii
pub mod Forms
pub mod Longest
pub mod Order
pub mod Reading
pub mod Samples
pub mod Scalar
