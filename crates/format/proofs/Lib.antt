pub mod Listed
pub mod Fields
pub mod Seal
pub mod Images
pub mod Times
