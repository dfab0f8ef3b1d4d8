pub mod Fields
pub mod Order
pub mod Shown
pub mod inner
