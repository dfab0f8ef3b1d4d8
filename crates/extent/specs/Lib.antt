pub mod Extents
pub mod inner
