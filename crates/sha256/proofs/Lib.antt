pub mod Bytewise
pub mod Cuts
pub mod Endian
pub mod LastBlocks
