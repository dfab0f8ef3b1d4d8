pub mod Shift
pub mod Linear
pub mod Row
pub mod Sparse
pub mod AtOnce
pub mod Folded
pub mod Laws
pub mod Vectors
