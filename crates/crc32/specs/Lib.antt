pub mod Crc
pub mod inner
