pub mod Xor
pub mod Zeros
pub mod Linear
pub mod Values
pub mod Entries
pub mod Sliced
pub mod Turns
