pub mod Layout
pub mod Extents
pub mod Blocks
pub mod Headers
pub mod Readings
pub mod Asked
pub mod Kinds
