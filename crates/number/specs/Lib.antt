pub mod Number
pub mod Address
pub mod Ascii
pub mod inner
